-- The order grows by each transaction as it is first committed. A snapshot of it in each group that it names says
-- what stands
-- before it.
use Rattle.std.proofs.Common.{◌≡◌, ℕ, ◌≤◌, ◌≢◌, ◌⊎◌, ◌↔◌, List, [], ◌∷◌, take, sym, refl, ap, ◌∙◌, subst, inl, inr, le_trans, le_refl}
use mathlib.Core.Option.{some}
use Rattle.protocol.specs.Kinds.{Kinds, Group, Replica}
use Rattle.protocol.specs.Lists.{In, Since}
use Rattle.protocol.specs.Transactions.{commit, Txn}
use Rattle.protocol.specs.Conflicts.{Touches, Conflict}
use Rattle.protocol.specs.Replicas.{Status, absent, pending, committed, rolled_back, declined, vote_of, System, status_of}
use Rattle.protocol.specs.Quorums.{HonestAt}
use Rattle.protocol.specs.Steps.{Laws}
use Rattle.protocol.specs.Runs.{Run, posts, place, passed, status_at, Posted}
use Rattle.protocol.specs.Assumptions.{OneBody}
use Rattle.protocol.specs.Agreement.{Committed}
use Rattle.protocol.specs.Order.{Stands}
use Rattle.protocol.proofs.Lists.{either, in_since}
use Rattle.protocol.proofs.Statuses.{Later, Origin, origin, later, still_committed, still_rolled_back}
use Rattle.protocol.proofs.Pending.{Pends, clear_at}
use Rattle.protocol.proofs.Runs.{place_le, place_since, posted_since, take_since, later_since, origin_at, Votes}
use Rattle.protocol.proofs.Agreement.{Certified, certified, voted, not_rolled_back}

-- a place of g, reached by an honest replica, at which t is pending, and what stands before t and conflicts with it
-- is committed
pub record Snapshot {K : Kinds} (S : System K) (run : Run K) (g : Group) (t : Txn K)
    (before : List (Txn K)) : Type 0 where
  pub replica : Replica
  pub honest : HonestAt S.set g replica
  pub spot : ℕ
  pub reached : spot ≤ place run g replica
  pub pends : Pends S g (take spot (posts run g)) t
  pub earlier : (u : Txn K) → In u before → Conflict S.set g t u →
      status_of S g (take spot (posts run g)) u.name ≡ committed

-- what the order keeps as the run goes on
pub record Inv {K : Kinds} (S : System K) (run : Run K) (ord : List (Txn K)) : Type 0 where
  pub holds : (t : Txn K) → In t ord ↔ Committed S run t
  pub once : (t : Txn K) (before : List (Txn K)) → Stands t before ord → (u : Txn K) → In u before → u.name ≢ t.name
  pub snap : (t : Txn K) (before : List (Txn K)) → Stands t before ord → (g : Group) → Touches S.set t g →
      Snapshot S run g t before
  pub realtime : (past : Run K) (t u : Txn K) (g : Group) → Since past run → Committed S past t →
      Touches S.set u g → (Posted S past g u → ⊥) → (before : List (Txn K)) → Stands u before ord → In t before

module _ {K : Kinds} (S : System K) (laws : Laws S) where
  pub committed_since : {past run : Run K} → Since past run → (t : Txn K) → Committed S past t → Committed S run t
  committed_since {past} {run} s t (g, r, c) = (
    g,
    r,
    record {
      honest = c.honest;
      posted = posted_since S s g t c.posted;
      done = subst (λ a. Later a (status_at S run g r t.name)) c.done (later_since S laws s g r t.name);
    },
  )

  pub snapshot_since : {past run : Run K} → Since past run → (g : Group) (t : Txn K) (before : List (Txn K)) →
      Snapshot S past g t before → Snapshot S run g t before
  snapshot_since {past} {run} s g t before k =
      record {
        replica = k.replica;
        honest = k.honest;
        spot = k.spot;
        reached = le_trans k.reached (place_since s g k.replica);
        pends = subst (λ l. Pends S g l t) (sym same) k.pends;
        earlier = λ u i c. subst (λ l. status_of S g l u.name ≡ committed) (sym same) (k.earlier u i c);
      }
    where
      same : take k.spot (posts run g) ≡ take k.spot (posts past g)
      same = take_since s g k.spot (le_trans k.reached (place_le past g k.replica))

  pub find : (ord : List (Txn K)) (x : K.Name) →
      ((t : Txn K) × In t ord × (t.name ≡ x)) ⊎ ((t : Txn K) → In t ord → t.name ≢ x)
  find [] x = inr (λ t i. absurd i)
  find (t ∷ ord) x =
      elim (laws.names t.name x) [
        | yes e ↦ inl (t, inl refl, e)
        | no ne ↦ elim (find ord x) [
          | inl f ↦ inl (f.0, inr f.1, f.2)
          | inr n ↦ inr (λ u i. elim i [ inl e ↦ λ q. ne (ap (λ (w : Txn K). w.name) (sym e) ∙ q) | inr j ↦ n u j ])
        ]
      ]

-- A run with its order, and a transaction that is certified in it and committed nowhere.
module _ {K : Kinds} (S : System K) (laws : Laws S) (run : Run K) (marked : Votes S run) (one : OneBody S run)
    (ord : List (Txn K)) (inv : Inv S run ord) where
  module _ (u : Txn K) (cert : Certified S run u) (new : (t : Txn K) → In t ord → t.name ≢ u.name) where
    uncommitted : (g : Group) (r : Replica) → HonestAt S.set g r → status_at S run g r u.name ≡ committed → ⊥
    uncommitted g r hon e =
        let o = origin_at S laws run g r u.name _ e in
        let d = ap (status_of S g (passed run g r)) o.1 ∙ e in
        new o.0 ((inv.holds o.0).1 (g, r, record { honest = hon; posted = o.2; done = d })) o.1

    is_pending : (g : Group) (r : Replica) → HonestAt S.set g r →
        vote_of (status_at S run g r u.name) ≡ some commit → Pends S g (passed run g r) u
    is_pending g r hon v =
        go (status_at S run g r u.name) refl (origin S laws g (posts run g) (place run g r) u.name)
      where
        go : (s : Status K) → status_at S run g r u.name ≡ s → Origin S (posts run g) u.name s →
            status_at S run g r u.name ≡ pending u
        go absent e o = cc
        go (pending t) e o = e ∙ ap pending (one g cert.home t u o.1 cert.posted o.0)
        go committed e o = absurd (uncommitted g r hon e)
        go rolled_back e o = absurd (not_rolled_back S laws run marked one u cert g r e)
        go declined e o = cc

    -- what stands in the order and conflicts with u is committed where u is pending
    earlier_done : (g : Group) (r : Replica) → Pends S g (passed run g r) u → (w : Txn K) → In w ord →
        Conflict S.set g u w → status_at S run g r w.name ≡ committed
    earlier_done g r p w i c =
        let b = in_since w ord i in
        let k = inv.snap w b.0 b.1 g (c.key, c.homed, c.right) in
        elim (either k.spot (place run g r)) [
          | inl le ↦
              up k (subst (λ s. Later s (status_at S run g r w.name)) k.pends
              (later S laws g (posts run g) k.spot (place run g r) le w.name))
          | inr ge ↦
              absurd (down b.0 k
              (subst (λ s. Later s (status_of S g (take k.spot (posts run g)) u.name)) p
              (later S laws g (posts run g) (place run g r) k.spot ge u.name)))
        ]
      where
        differ : u.name ≢ w.name
        differ e = new w i (sym e)

        kept : Certified S run w
        kept = let k = (inv.holds w).0 i in
            certified S laws run marked one w k.0 k.1 k.2.posted k.2.done

        up : {before : List (Txn K)} → Snapshot S run g w before → Later (pending w) (status_at S run g r w.name) →
            status_at S run g r w.name ≡ committed
        up k (inl e) = absurd (clear_at S laws g (posts run g) (place run g r) u w p e differ c)
        up k (inr (inl e)) = e
        up k (inr (inr e)) = absurd (not_rolled_back S laws run marked one w kept g r e)

        down : (before : List (Txn K)) (k : Snapshot S run g w before) →
            Later (pending u) (status_of S g (take k.spot (posts run g)) u.name) → ⊥
        down before k (inl e) = clear_at S laws g (posts run g) k.spot u w e k.pends differ c
        down before k (inr (inl e)) =
            uncommitted g k.replica k.honest
            (still_committed S laws g (posts run g) k.spot (place run g k.replica) k.reached u.name e)
        down before k (inr (inr e)) =
            not_rolled_back S laws run marked one u cert g k.replica
            (still_rolled_back S laws g (posts run g) k.spot (place run g k.replica) k.reached u.name e)

    pub snapshot : (g : Group) → Touches S.set u g → Snapshot S run g u ord
    snapshot g n =
        let v = voted S laws run marked one u cert g n in
        let p = is_pending g v.0 v.1 v.2 in
        record {
          replica = v.0;
          honest = v.1;
          spot = place run g v.0;
          reached = le_refl _;
          pends = p;
          earlier = earlier_done g v.0 p;
        }
