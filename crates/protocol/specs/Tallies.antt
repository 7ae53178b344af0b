-- A tally by what it promises: it is opened for a name and some groups, fed with answers, and writes a certificate.
use Rattle.std.specs.Prelude.{◌≡◌, ℕ, ◌<◌, true, ◌⊎◌, List, length}
use Rattle.std.proofs.Math.Option.{Option, none, some}
use Rattle.protocol.specs.Kinds.{Kinds, Group, Replica}
use Rattle.protocol.specs.Lists.{In, Distinct}
use Rattle.protocol.specs.Transactions.{Vote, Txn}
use Rattle.protocol.specs.Certificates.{Entry, Answer, Certificate}
use Rattle.protocol.specs.Settings.{Setting}
use Rattle.protocol.specs.Conflicts.{GroupsOf}
use Rattle.protocol.specs.Quorums.{Valid}

-- Of a tally that was opened for a name and groups and then fed with a list of messages, oldest first:
pub record Tally (K : Kinds) : Type 0 where
  -- the message that it writes, once it is closed
  pub writes : K.Name → List Group → List K.Message → Option K.Message
  -- the number that one more message meets, while it is open: 0, or that of a refusal
  pub number : K.Name → List Group → List K.Message → K.Message → ℕ

module _ {K : Kinds} where
  -- m is an answer of the replica r of g, with its vote v on x and a genuine mark
  pub record Says (W : Setting K) (m : K.Message) (g : Group) (r : Replica) (v : Vote) (x : K.Name) : Type 0 where
    pub answer : Answer K
    pub reads : W.answer m ≡ some answer
    pub named : answer.name ≡ x
    pub voted : answer.vote ≡ v
    pub group : answer.entry.group ≡ g
    pub replica : answer.entry.replica ≡ r
    pub genuine : W.genuine x v answer.entry ≡ true

  -- among the messages l are such answers of more than f replicas of g, and all of theirs give one vote
  pub record OneVote (W : Setting K) (x : K.Name) (l : List K.Message) (g : Group) : Type 0 where
    pub vote : Vote
    pub replicas : List Replica
    pub distinct : Distinct replicas
    pub there : (r : Replica) → In r replicas → r < W.replicas
    pub many : W.faults < length replicas
    pub says : (r : Replica) → In r replicas → (m : K.Message) × In m l × Says W m g r vote x
    pub alike : (m : K.Message) (r : Replica) (v : Vote) → In m l → In r replicas → Says W m g r v x → v ≡ vote

  -- a tally can be opened for t: a message carries it, and gs are the groups that it names
  pub record Opens (W : Setting K) (t : Txn K) (gs : List Group) : Type 0 where
    pub message : K.Message
    pub carries : W.body message ≡ some t
    pub groups : GroupsOf W t gs

  -- m is a valid certificate for t, and each of its entries is that of an answer among l
  pub record Certifies (W : Setting K) (t : Txn K) (l : List K.Message) (m : K.Message) : Type 0 where
    pub certificate : Certificate K
    pub reads : W.certificate m ≡ some certificate
    pub valid : Valid W t certificate
    pub heard : (e : Entry K.Mark) → In e certificate.entries →
        (a : K.Message) × In a l ×
        (W.answer a ≡ some (record { name = certificate.name; vote = certificate.vote; entry = e }))

  -- the laws of a tally
  pub record TallyLaws (W : Setting K) (T : Tally K) : Type 0 where
    -- once more than f replicas of each of its groups have given one vote, it is closed
    pub closes : (t : Txn K) (gs : List Group) → Opens W t gs → (l : List K.Message) →
        ((g : Group) → In g gs → OneVote W t.name l g) → (m : K.Message) × (T.writes t.name gs l ≡ some m)
    -- what it writes is a valid certificate, made of answers that it was fed with
    pub proper : (t : Txn K) (gs : List Group) → Opens W t gs → (l : List K.Message) (m : K.Message) →
        T.writes t.name gs l ≡ some m → Certifies W t l m
    -- while it is open, a genuine answer of a replica of its groups is counted, or meets 17: it comes too late
    pub admits : (t : Txn K) (gs : List Group) → Opens W t gs → (l : List K.Message) →
        T.writes t.name gs l ≡ none → (m : K.Message) (g : Group) (r : Replica) (v : Vote) →
        In g gs → r < W.replicas → Says W m g r v t.name →
        (T.number t.name gs l m ≡ 0) ⊎ (T.number t.name gs l m ≡ 17)
