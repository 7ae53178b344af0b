-- A small step over small messages, with its tests computed. It keeps the laws.
use Rattle.std.specs.Prelude.{ℕ, suc, ◌+◌, Bool, true, false, cond, not, ◌&&◌, ◌||◌, List, [], ◌∷◌, map, length, ◌==◌, nat_eq, nat_lt}
use Rattle.std.proofs.Math.Option.{Option, none, some}
use Rattle.protocol.specs.Kinds.{Group, Value}
use Rattle.protocol.specs.Transactions.{Vote, commit, abort, written}
use Rattle.protocol.specs.Certificates.{Entry, from}
use Rattle.protocol.specs.Replicas.{Status, absent, pending, committed, rolled_back, declined, View, System}
use Rattle.protocol.specs.Steps.{Laws, ProgressLaws}
use Rattle.protocol.specs.Folds.{Machine, folded}
use Rattle.protocol.specs.Tests.{any, all, has}
use Rattle.protocol.specs.SmallMessages.{Operation, Body, Message, begin, propose, certify, reply, small, is_some}
use Rattle.protocol.specs.SmallMessages.{is_value, put_at, keys, txn, Config, setting}

-- how a transaction ended
pub data End : Type 0 where
  taken dropped refused : End

-- a name that has ended
pub record Ended : Type 0 where
  pub name : ℕ
  pub end : End

-- what a replica keeps: the pending bodies, the names that have ended, and its rows
pub record State : Type 0 where
  pub waiting : List Body
  pub ended : List Ended
  pub rows : ℕ → Option Value

-- the pending body of a name
abbrev pub find : ℕ → List Body → Option Body
find x [] = none
find x (b ∷ bs) = cond (x == b.name) (some b) (find x bs)

-- the status of a name that ended so
abbrev pub end_status : End → Status small
end_status taken = committed
end_status dropped = rolled_back
end_status refused = declined

-- the status of a name that is not pending
abbrev pub ended_as : ℕ → List Ended → Status small
ended_as x [] = absent
ended_as x (e ∷ es) = cond (x == e.name) (end_status e.end) (ended_as x es)

-- pending, if there is a body for it
abbrev pub waiting_or : Option Body → Status small → Status small
waiting_or none s = s
waiting_or (some b) s = pending (txn b)

-- the status of a name
abbrev pub status : State → ℕ → Status small
status s x = waiting_or (find x s.waiting) (ended_as x s.ended)

-- the book has room for one name more
abbrev pub room : Config → State → Bool
room C s = nat_lt (length s.waiting + length s.ended) C.book

-- all together
abbrev pub read : Config → State → View small
read C s = record { status = status s; rows = s.rows; full = not (room C s) }

-- a and b conflict in g
abbrev pub clashes : Config → Group → Body → Body → Bool
clashes C g a b =
    any (λ k. (C.home k == g) && has (keys b) k &&
    (is_some (put_at a.operations k) || is_some (put_at b.operations k)))
    (keys a)

-- what an operation expects is there
abbrev pub meets : Option Value → Option Value → Bool
meets none row = true
meets (some v) row = is_value v row

-- an operation at a key of g has a row, and what it expects is there
abbrev pub passes : Config → Group → (ℕ → Option Value) → Operation → Bool
passes C g rows o = not (C.home o.key == g) || (is_some (rows o.key) && meets o.expect (rows o.key))

-- a new body can be pending
abbrev pub admissible : Config → Group → State → Body → Bool
admissible C g s b =
    not (any (clashes C g b) s.waiting) && all (passes C g s.rows) b.operations &&
    nat_lt (length s.waiting) C.places

-- the groups that b names, some perhaps more than once
abbrev pub groups_of : Config → Body → List Group
groups_of C b = map C.home (keys b)

-- an entry stands before another: by group, then by replica
abbrev pub earlier : Entry ℕ → Entry ℕ → Bool
earlier e d = nat_lt e.group d.group || (e.group == d.group && nat_lt e.replica d.replica)

-- the entries of a certificate rise
abbrev pub rising : List (Entry ℕ) → Bool
rising [] = true
rising (e ∷ es) = all (earlier e) es && rising es

-- they are f + 1 of each of the groups gs, or of one of them
abbrev pub spread : Config → List Group → Vote → List (Entry ℕ) → Bool
spread C gs commit es =
    all (λ e. has gs e.group) es && all (λ g. nat_eq (length (from g es)) (suc C.faults)) gs
spread C gs abort es = any (λ g. all (λ e. nat_eq g e.group) es && length es == suc C.faults) gs

-- the certificate is valid for the groups gs
abbrev pub valid : Config → List Group → ℕ → Vote → List (Entry ℕ) → Bool
valid C gs x v es =
    rising es && all (λ e. nat_lt e.replica C.replicas && C.genuine x v e) es && spread C gs v es

-- without the body of a name
abbrev pub remove : ℕ → List Body → List Body
remove x [] = []
remove x (b ∷ bs) = cond (x == b.name) (remove x bs) (b ∷ remove x bs)

-- a name is declined
abbrev pub decline : ℕ → State → State
decline x s = record { waiting = s.waiting; ended = record { name = x; end = refused } ∷ s.ended; rows = s.rows }

-- a body is pending
abbrev pub accept : Body → State → State
accept b s = record { waiting = b ∷ s.waiting; ended = s.ended; rows = s.rows }

-- a pending body ends so, and the rows are these
abbrev pub end_with : End → (ℕ → Option Value) → Body → State → State
end_with end rows b s =
    record {
      waiting = remove b.name s.waiting;
      ended = record { name = b.name; end = end } ∷ s.ended;
      rows = rows;
    }

-- it is committed or rolled back
abbrev pub close : Vote → Body → State → State
close commit b s = end_with taken (λ k. written (put_at b.operations k) (s.rows k)) b s
close abort b s = end_with dropped s.rows b s

-- a certificate is judged by the pending body of its name
abbrev pub judge : Config → ℕ → Vote → List (Entry ℕ) → Option Body → State → State
judge C x v es none s = s
judge C x v es (some b) s = cond (valid C (groups_of C b) x v es) (close v b s) s

-- a name is new, and the book has room for it
abbrev pub is_absent : Status small → Bool
is_absent absent = true
is_absent (pending t) = false
is_absent committed = false
is_absent rolled_back = false
is_absent declined = false

abbrev pub is_new : Config → State → ℕ → Bool
is_new C s x = is_absent (status s x) && room C s

-- one message
abbrev pub step : Config → Group → State → Message → State
step C g s (begin b) = cond (is_new C s b.name) (cond (admissible C g s b) (accept b s) (decline b.name s)) s
step C g s (propose x) = cond (is_new C s x) (decline x s) s
step C g s (certify x v es) = judge C x v es (find x s.waiting) s
step C g s (reply x v e) = s

-- a replica begins with the rows at set-up
abbrev pub machine : Config → Machine small State
machine C =
    record {
      set = setting C;
      init = λ g. record { waiting = []; ended = []; rows = C.first };
      step = step C;
      read = read C;
    }

-- the system whose replicas fold the step over the messages that they pass
abbrev pub system : Config → System small
system C = folded (machine C)

-- It keeps the laws.
abbrev pub SmallStepKeepsLaws : Type 0
SmallStepKeepsLaws = (C : Config) → Laws (system C) × ProgressLaws (system C)
