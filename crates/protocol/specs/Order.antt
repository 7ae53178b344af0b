-- Order: one order of all that is committed explains what every honest replica has seen and holds.
use Rattle.std.specs.Prelude.{◌≡◌, Bool, true, false, ◌↔◌, List, ◌∷◌}
use Rattle.protocol.specs.Kinds.{Kinds, Group, Replica}
use Rattle.protocol.specs.Lists.{In, Distinct, only, Since}
use Rattle.protocol.specs.Transactions.{Txn, Names}
use Rattle.protocol.specs.Conflicts.{Touches}
use Rattle.protocol.specs.Replicas.{Status, absent, pending, committed, rolled_back, declined, System}
use Rattle.protocol.specs.Quorums.{HonestAt, FewFaulty}
use Rattle.protocol.specs.Steps.{Laws}
use Rattle.protocol.specs.Runs.{Run, status_at, row_at, Posted}
use Rattle.protocol.specs.Assumptions.{Assumptions}
use Rattle.protocol.specs.Agreement.{Committed}
use Rattle.protocol.specs.Register.{Takes, register}

module _ {K : Kinds} where
  -- whether a status is committed
  abbrev pub is_committed : Status K → Bool
  is_committed absent = false
  is_committed (pending t) = false
  is_committed committed = true
  is_committed rolled_back = false
  is_committed declined = false

  -- those of a list whose names are committed
  abbrev pub committed_of : (K.Name → Status K) → List (Txn K) → List (Txn K)
  committed_of status ts = only (λ t. is_committed (status t.name)) ts

  -- t stands in the order, with newest first, and `before` is all that stands before it
  abbrev pub Stands : Txn K → List (Txn K) → List (Txn K) → Type 0
  Stands t before order = Since (t ∷ before) order

  -- the list `order`, newest first, is an order of the run
  pub record IsOrder (S : System K) (run : Run K) (order : List (Txn K)) : Type 0 where
    -- it holds exactly the transactions that are committed at an honest replica, each once
    pub holds : (t : Txn K) → In t order ↔ Committed S run t
    pub once : Distinct order
    -- where at some moment t was committed and u was not yet posted to some group that it names, t stands before u
    pub real_time : (past : Run K) (t u : Txn K) (g : Group) → Since past run → Committed S past t →
        Touches S.set u g → (Posted S past g u → ⊥) → (before : List (Txn K)) → Stands u before order → In t before
    -- the plain register, fed in this order, takes each
    pub takes : (t : Txn K) (before : List (Txn K)) → Stands t before order → Takes t (register S before)
    -- at any moment at which t is pending at an honest replica, the rows there at t's keys are the register's just
    -- before t
    pub sees : (t : Txn K) (before : List (Txn K)) → Stands t before order →
        (past : Run K) → Since past run → (g : Group) (r : Replica) → HonestAt S.set g r →
        status_at S past g r t.name ≡ pending t →
        (k : K.Key) → S.set.home k ≡ g → Names t k → row_at S past g r k ≡ register S before k
    -- the rows of an honest replica are those at set-up after the writes of what it has committed, in this order
    pub rows : (g : Group) (r : Replica) → HonestAt S.set g r → (k : K.Key) → S.set.home k ≡ g →
        row_at S run g r k ≡ register S (committed_of (status_at S run g r) order) k

  -- there is such an order, and the one of any earlier moment is an older part of it
  abbrev pub Ordered : System K → Run K → Type 0
  Ordered S run =
      (order : List (Txn K)) × IsOrder S run order ×
      ((past : Run K) → Since past run → (old : List (Txn K)) × Since old order × IsOrder S past old)

-- The runs of every system that keeps the laws have such an order.
abbrev pub Order : Kinds → Type 0
Order K = (S : System K) → Laws S → FewFaulty S.set → (run : Run K) → Assumptions S run → Ordered S run
