-- Agreement: what is committed at one honest replica is neither declined nor rolled back at another.
use Rattle.std.specs.Prelude.{◌≡◌, ◌≢◌}
use Rattle.protocol.specs.Kinds.{Kinds, Group, Replica}
use Rattle.protocol.specs.Transactions.{Txn}
use Rattle.protocol.specs.Conflicts.{Touches}
use Rattle.protocol.specs.Replicas.{committed, rolled_back, declined, System}
use Rattle.protocol.specs.Quorums.{HonestAt, FewFaulty}
use Rattle.protocol.specs.Steps.{Laws}
use Rattle.protocol.specs.Runs.{Run, status_at, Posted}
use Rattle.protocol.specs.Assumptions.{Assumptions}

module _ {K : Kinds} where
  -- t is committed at the honest replica r of g
  pub record CommittedAt (S : System K) (run : Run K) (t : Txn K) (g : Group) (r : Replica) : Type 0 where
    pub honest : HonestAt S.set g r
    pub posted : Posted S run g t
    pub done : status_at S run g r t.name ≡ committed

  -- t is committed at some honest replica
  abbrev pub Committed : System K → Run K → Txn K → Type 0
  Committed S run t = (g : Group) × (r : Replica) × CommittedAt S run t g r

  -- no transaction that is committed at an honest replica is declined or rolled back at one of a group that it names
  abbrev pub Agrees : System K → Run K → Type 0
  Agrees S run =
      (t : Txn K) → Committed S run t → (g : Group) (r : Replica) → Touches S.set t g → HonestAt S.set g r →
      (status_at S run g r t.name ≢ declined) × (status_at S run g r t.name ≢ rolled_back)

-- The runs of every system that keeps the laws agree.
abbrev pub Agreement : Kinds → Type 0
Agreement K = (S : System K) → Laws S → FewFaulty S.set → (run : Run K) → Assumptions S run → Agrees S run
