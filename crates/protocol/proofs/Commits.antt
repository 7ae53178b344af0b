-- By one event at most one transaction is committed for the first time.
use Rattle.std.proofs.Common.{◌≡◌, ℕ, suc, ◌≤◌, min, Bool, true, false, cond, ◌&&◌, eqb, ◌⊎◌, List, [], ◌∷◌, ◌++◌, length, take, sym, refl, ap, ◌∙◌, subst, subst₂, inl, inr, arith}
use mathlib.Core.Bool.{false≢true}
use native.Mathlib.Decide.{dec_lt}
use Rattle.std.proofs.lemmas.Bool.Decides.{nat_tests}
use Rattle.protocol.specs.Kinds.{Kinds, Group, Replica}
use Rattle.protocol.specs.Lists.{In}
use Rattle.protocol.specs.Transactions.{Txn}
use Rattle.protocol.specs.Replicas.{Status, absent, pending, committed, rolled_back, declined, System, status_of}
use Rattle.protocol.specs.Quorums.{HonestAt}
use Rattle.protocol.specs.Steps.{Laws}
use Rattle.protocol.specs.Runs.{Event, post, deliver, other, Run, posts, place, passed, status_at, Posted}
use Rattle.protocol.specs.Assumptions.{OneBody}
use Rattle.protocol.specs.Agreement.{CommittedAt, Committed}
use Rattle.protocol.specs.Order.{is_committed}
use Rattle.protocol.proofs.Lists.{take_next}
use Rattle.protocol.proofs.Pending.{CommitHop, commits_none, commits_one, commit_hop}
use Rattle.protocol.proofs.Runs.{step, place_le, posted_since, passed_since, origin_at}

-- what the event e commits for the first time, if anything
pub data Grows {K : Kinds} (S : System K) (e : Event K) (run : Run K) : Type 0 where
  nothing : ((t : Txn K) → Committed S (e ∷ run) t → Committed S run t) → Grows S e run
  one_more : (u : Txn K) → Committed S (e ∷ run) u →
      ((g : Group) (m : K.Message) → In m (posts (e ∷ run) g) → In m (posts run g)) →
      ((t : Txn K) → Committed S (e ∷ run) t → (t ≡ u) ⊎ Committed S run t) → Grows S e run

pub is_committed_lem : {K : Kinds} (s : Status K) → is_committed s ≡ true → s ≡ committed
is_committed_lem absent e = cc
is_committed_lem (pending t) e = cc
is_committed_lem committed e = refl
is_committed_lem rolled_back e = cc
is_committed_lem declined e = cc

-- a delivery leaves the replica where it is, or moves it over the next message
moved : {A : Type 0} (b : Bool) (l : List A) (p : ℕ) → p ≤ length l →
    (take (cond b (min (suc p) (length l)) p) l ≡ take p l) ⊎
    ((m : A) × In m l × (take (cond b (min (suc p) (length l)) p) l ≡ take p l ++ (m ∷ [])))
moved false l p h = inl refl
moved true l p h =
    elim (dec_lt p (length l)) [
      | yes lt ↦
          let n = take_next l p lt in
          let e : min (suc p) (length l) ≡ suc p = omega arith in
          inr (n.0, n.1, ap (λ q. take q l) e ∙ n.2)
      | no ge ↦ let e : min (suc p) (length l) ≡ p = omega arith in inl (ap (λ q. take q l) e)
    ]

module _ {K : Kinds} where
  -- and no other replica
  elsewhere : (h : Group) (q : Replica) (run : Run K) (g : Group) (r : Replica) →
      (passed (deliver h q ∷ run) g r ≡ passed run g r) ⊎ ((g ≡ h) × (r ≡ q))
  elsewhere h q run g r = go (eqb h g && eqb q r) refl
    where
      go : (b : Bool) → (eqb h g && eqb q r) ≡ b →
          (passed (deliver h q ∷ run) g r ≡ passed run g r) ⊎ ((g ≡ h) × (r ≡ q))
      go true e = inr (grind (arith, nat_tests), grind (arith, nat_tests))
      go false e =
          inl (ap (λ b. take (cond b (min (suc (place run g r)) (length (posts run g))) (place run g r))
          (posts run g)) e)

  pub honest_or_not : (S : System K) (g : Group) (r : Replica) → HonestAt S.set g r ⊎ (HonestAt S.set g r → ⊥)
  honest_or_not S g r =
      elim (dec_lt r S.set.replicas) [
        | yes lt ↦ go lt (S.set.honest g r) refl
        | no ge ↦ inr (λ h. ge h.0)
      ]
    where
      go : suc r ≤ S.set.replicas → (b : Bool) → S.set.honest g r ≡ b →
          HonestAt S.set g r ⊎ (HonestAt S.set g r → ⊥)
      go lt true e = inl (lt, e)
      go lt false e = inr (λ h. false≢true (sym e ∙ h.1))

module _ {K : Kinds} (S : System K) (laws : Laws S) (e : Event K) (run : Run K) (one : OneBody S (e ∷ run)) where
  -- a name that was committed before the event belongs to the body that was posted before it
  before : (t : Txn K) (g : Group) (r : Replica) → CommittedAt S (e ∷ run) t g r →
      status_at S run g r t.name ≡ committed → Committed S run t
  before t g r c h =
      let o = origin_at S laws run g r t.name _ h in
      let ot : o.0 ≡ t = one g g o.0 t (posted_since S (step e run) g o.0 o.2) c.posted o.1 in
      (g, r, record { honest = c.honest; posted = subst (Posted S run g) ot o.2; done = h })

  same_passed : (t : Txn K) (g : Group) (r : Replica) → passed (e ∷ run) g r ≡ passed run g r →
      CommittedAt S (e ∷ run) t g r → Committed S run t
  same_passed t g r p c = before t g r c (subst (λ l. status_of S g l t.name ≡ committed) p c.done)

module _ {K : Kinds} (S : System K) (laws : Laws S) (run : Run K) where
  delivered : (h : Group) (q : Replica) → OneBody S (deliver h q ∷ run) → Grows S (deliver h q) run
  delivered h q one =
      elim (moved (eqb h h && eqb q q) (posts run h) (place run h q) (place_le run h q)) [
        | inl still ↦ nothing (λ t c. by t (same_passed S laws (deliver h q) run one t h q still) c)
        | inr n ↦ over n.0 n.2 (commit_hop S laws h (passed run h q) n.0) (honest_or_not S h q)
      ]
    where
      Now : Txn K → Type 0
      Now t = Committed S (deliver h q ∷ run) t

      by : (t : Txn K) → (CommittedAt S (deliver h q ∷ run) t h q → Committed S run t) → Now t → Committed S run t
      by t here (g, r, c) =
          elim (elsewhere h q run g r) [
            | inl same ↦ same_passed S laws (deliver h q) run one t g r same c
            | inr gr ↦ here (subst₂ (λ a b. CommittedAt S (deliver h q ∷ run) t a b) gr.0 gr.1 c)
          ]

      over : (m : K.Message) → passed (deliver h q ∷ run) h q ≡ passed run h q ++ (m ∷ []) →
          CommitHop S h (passed run h q) m → HonestAt S.set h q ⊎ (HonestAt S.set h q → ⊥) →
          Grows S (deliver h q) run
      over m n c (inr no_one) = nothing (λ t k. by t (λ a. absurd (no_one a.honest)) k)
      over m n (commits_none same rows) (inl hon) =
          nothing (λ t c. by t (λ k. before S laws (deliver h q) run one t h q k
          (is_committed_lem (status_at S run h q t.name) (sym (same t.name) ∙
          ap is_committed (subst (λ l. status_of S h l t.name ≡ committed) n k.done)))) c)
      over m n (commits_one u p turn rows) (inl hon) =
          one_more u (
            h,
            q,
            record {
              honest = hon;
              posted = po;
              done =
                  subst (λ l. status_of S h l u.name ≡ committed) (sym n) turn.becomes;
            },
          )
          (λ g m j. j) others
        where
          po : Posted S run h u
          po = (origin_at S laws run h q u.name _ p).1

          here : (t : Txn K) → CommittedAt S (deliver h q ∷ run) t h q → (t ≡ u) ⊎ Committed S run t
          here t c =
              elim (laws.names t.name u.name) [
                | yes e ↦ inl (one h h t u c.posted po e)
                | no ne ↦ inr (before S laws (deliver h q) run one t h q c
                    (sym (turn.others t.name ne) ∙ subst (λ l. status_of S h l t.name ≡ committed) n c.done))
              ]

          others : (t : Txn K) → Now t → (t ≡ u) ⊎ Committed S run t
          others t (g, r, c) =
              elim (elsewhere h q run g r) [
                | inl same ↦ inr (same_passed S laws (deliver h q) run one t g r same c)
                | inr gr ↦ here t (subst₂ (λ a b. CommittedAt S (deliver h q ∷ run) t a b) gr.0 gr.1 c)
              ]

  pub grows : (e : Event K) → OneBody S (e ∷ run) → Grows S e run
  grows (post h m) one =
      nothing (λ t c. same_passed S laws (post h m) run one t c.0 c.1
      (passed_since (step (post h m) run) c.0 c.1) c.2)
  grows (deliver h q) one = delivered h q one
  grows other one = nothing (λ t c. same_passed S laws other run one t c.0 c.1 refl c.2)
