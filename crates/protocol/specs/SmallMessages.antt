-- Small messages, for an example: names, keys and marks are numbers, and a message is what it reads as.
use Rattle.std.specs.Prelude.{ℕ, Bool, true, false, cond, ◌&&◌, List, [], ◌∷◌, map, ◌==◌}
use Rattle.std.proofs.Math.Option.{Option, none, some}
use Rattle.protocol.specs.Kinds.{Kinds, kinds, Group, Replica, Value}
use Rattle.protocol.specs.Transactions.{Vote, Txn}
use Rattle.protocol.specs.Certificates.{Entry, Answer, Certificate}
use Rattle.protocol.specs.Settings.{Setting}
use Rattle.protocol.specs.Tests.{any, has}

-- an operation reads its key; it compares the row with a value, and writes a value, if it has one
pub record Operation : Type 0 where
  pub key : ℕ
  pub expect : Option Value
  pub put : Option Value

-- a transaction is a name and operations
pub record Body : Type 0 where
  pub name : ℕ
  pub operations : List Operation

-- a body, a proposal to abort, a certificate or an answer
pub data Message : Type 0 where
  begin : Body → Message
  propose : ℕ → Message
  certify : ℕ → Vote → List (Entry ℕ) → Message
  reply : ℕ → Vote → Entry ℕ → Message

-- so the open types are these
abbrev pub small : Kinds
small = kinds ℕ ℕ Message ℕ

-- whether there is a value, and whether it is v
abbrev pub is_some : Option Value → Bool
is_some none = false
is_some (some v) = true

abbrev pub is_value : Value → Option Value → Bool
is_value v none = false
is_value v (some w) = v == w

-- the first value that is there
abbrev pub or_else : Option Value → Option Value → Option Value
or_else none o = o
or_else (some v) o = some v

-- what the operations write at k
abbrev pub put_at : List Operation → ℕ → Option Value
put_at [] k = none
put_at (o ∷ os) k = cond (k == o.key) (or_else o.put (put_at os k)) (put_at os k)

-- the keys that a body names
abbrev pub keys : Body → List ℕ
keys b = map (λ o. o.key) b.operations

-- a body as a transaction
abbrev pub txn : Body → Txn small
txn b =
    record {
      name = b.name;
      reads = has (keys b);
      compares = λ k v. any (λ o. (k == o.key) && is_value v o.expect) b.operations;
      writes = put_at b.operations;
    }

-- how messages read
abbrev pub body_of : Message → Option (Txn small)
body_of (begin b) = some (txn b)
body_of (propose x) = none
body_of (certify x v es) = none
body_of (reply x v e) = none

abbrev pub proposal_of : Message → Option ℕ
proposal_of (begin b) = none
proposal_of (propose x) = some x
proposal_of (certify x v es) = none
proposal_of (reply x v e) = none

abbrev pub certificate_of : Message → Option (Certificate small)
certificate_of (begin b) = none
certificate_of (propose x) = none
certificate_of (certify x v es) = some (record { name = x; vote = v; entries = es })
certificate_of (reply x v e) = none

abbrev pub answer_of : Message → Option (Answer small)
answer_of (begin b) = none
answer_of (propose x) = none
answer_of (certify x v es) = none
answer_of (reply x v e) = some (record { name = x; vote = v; entry = e })

-- what is fixed
pub record Config : Type 0 where
  pub home : ℕ → Group
  pub replicas : ℕ
  pub faults : ℕ
  pub honest : Group → Replica → Bool
  pub genuine : ℕ → Vote → Entry ℕ → Bool
  pub first : ℕ → Option Value  -- the rows at set-up
  pub places : ℕ  -- how many can be pending at a replica
  pub book : ℕ  -- how many names a replica can know

-- with how messages read, that is a setting
abbrev pub setting : Config → Setting small
setting C =
    record {
      home = C.home;
      replicas = C.replicas;
      faults = C.faults;
      honest = C.honest;
      genuine = C.genuine;
      body = body_of;
      proposal = proposal_of;
      certificate = certificate_of;
      answer = answer_of;
    }
