-- Every run has an order: it grows event by event.
use Rattle.std.proofs.Common.{◌≡◌, ◌≢◌, ◌⊎◌, ◌↔◌, List, [], ◌∷◌, sym, refl, ap, ◌∙◌, subst, inl, inr}
use mathlib.Core.Bool.{false≢true}
use mathlib.Core.Option.{some}
use Rattle.protocol.specs.Kinds.{Kinds, Group}
use Rattle.protocol.specs.Lists.{In, Since, now, newer}
use Rattle.protocol.specs.Transactions.{commit, Txn}
use Rattle.protocol.specs.Conflicts.{Touches}
use Rattle.protocol.specs.Replicas.{Status, absent, pending, committed, rolled_back, declined, vote_of, System}
use Rattle.protocol.specs.Quorums.{FewFaulty}
use Rattle.protocol.specs.Steps.{Laws}
use Rattle.protocol.specs.Runs.{Event, Run, posts, place, status_at, Posted}
use Rattle.protocol.specs.Assumptions.{OneBody, Assumptions}
use Rattle.protocol.specs.Agreement.{Committed}
use Rattle.protocol.specs.Order.{Stands}
use Rattle.protocol.proofs.Lists.{since_nil, since_inv, since_in, since_empty, since_trans}
use Rattle.protocol.proofs.Statuses.{Origin, origin}
use Rattle.protocol.proofs.Runs.{step, assumed_before, Votes, votes}
use Rattle.protocol.proofs.Agreement.{Certified, certified, voted}
use Rattle.protocol.proofs.Commits.{Grows, nothing, one_more, grows}
use Rattle.protocol.proofs.Snapshots.{Snapshot, Inv, committed_since, snapshot_since, find, snapshot}

-- a committed transaction was posted to each group that it names
posted_to : {K : Kinds} (S : System K) (laws : Laws S) (run : Run K) → Votes S run → OneBody S run →
    (u : Txn K) → Committed S run u → (g : Group) → Touches S.set u g → Posted S run g u
posted_to {K} S laws run marked one u (h, q, c) g n =
    let k = certified S laws run marked one u h q c.posted c.done in
    let v = voted S laws run marked one u k g n in
    go (status_at S run g v.0 u.name) v.2 (origin S laws g (posts run g) (place run g v.0) u.name)
  where
    go : (s : Status K) → vote_of s ≡ some commit → Origin S (posts run g) u.name s → Posted S run g u
    go absent e o = absurd (false≢true (cc))
    go (pending t) e o = subst (Posted S run g) (one g h t u o.1 c.posted o.0) o.1
    go committed e o = subst (Posted S run g) (one g h o.0 u o.2 c.posted o.1) o.2
    go rolled_back e o = subst (Posted S run g) (one g h o.0 u o.2 c.posted o.1) o.2
    go declined e o = absurd (false≢true (cc))

cons_is : {K : Kinds} (t u : Txn K) (a b : List (Txn K)) → t ∷ a ≡ u ∷ b → (t ≡ u) × (a ≡ b)
cons_is t u a b e = (cc, cc)

-- one event more
module _ {K : Kinds} (S : System K) (laws : Laws S) (e : Event K) (run : Run K) (marked : Votes S run)
    (marked' : Votes S (e ∷ run))
    (was_one : OneBody S run) (one : OneBody S (e ∷ run)) (ord : List (Txn K)) (inv : Inv S run ord) where
  abbrev Next : Type 0
  Next = (next : List (Txn K)) × Since ord next × Inv S (e ∷ run) next

  -- nothing stands in the order of a run that was not posted by then
  no_newer : (past : Run K) → past ≡ e ∷ run → (u : Txn K) (g : Group) → Touches S.set u g →
      (Posted S past g u → ⊥) → Committed S (e ∷ run) u → ⊥
  no_newer past p u g n un c = un (subst (λ r. Posted S r g u) (sym p) (posted_to S laws (e ∷ run) marked' one u c g n))

  unchanged : ((t : Txn K) → Committed S (e ∷ run) t → Committed S run t) → Next
  unchanged f = (
    ord,
    now,
    record {
      holds = holds;
      once = inv.once;
      snap = λ t before s g n. snapshot_since S laws (step e run) g t before (inv.snap t before s g n);
      realtime = realtime;
    },
  )
    where
      holds : (t : Txn K) → In t ord ↔ Committed S (e ∷ run) t
      holds t = (λ i. committed_since S laws (step e run) t ((inv.holds t).0 i), λ c. (inv.holds t).1 (f t c))

      realtime : (past : Run K) (t u : Txn K) (g : Group) → Since past (e ∷ run) → Committed S past t →
          Touches S.set u g → (Posted S past g u → ⊥) → (before : List (Txn K)) → Stands u before ord → In t before
      realtime past t u g s c n un before k =
          elim (since_inv past e run s) [
            | inl p ↦ absurd (no_newer past p u g n un ((holds u).0 (since_in u before k)))
            | inr old ↦ inv.realtime past t u g old c n un before k
          ]

  extended : (u : Txn K) → Committed S (e ∷ run) u → Certified S run u →
      ((t : Txn K) → In t ord → t.name ≢ u.name) →
      ((t : Txn K) → Committed S (e ∷ run) t → (t ≡ u) ⊎ Committed S run t) → Next
  extended u cu cert new f =
      (u ∷ ord, newer now, record { holds = holds; once = once; snap = snap; realtime = realtime })
    where
      holds : (t : Txn K) → In t (u ∷ ord) ↔ Committed S (e ∷ run) t
      holds t = (
        λ i. elim i [
          | inl p ↦ subst (Committed S (e ∷ run)) (sym p) cu
          | inr j ↦
              committed_since S laws (step e run) t ((inv.holds t).0 j)
        ],
        λ c. elim (f t c) [ inl p ↦ inl p | inr k ↦ inr ((inv.holds t).1 k) ],
      )

      once : (t : Txn K) (before : List (Txn K)) → Stands t before (u ∷ ord) → (w : Txn K) → In w before →
          w.name ≢ t.name
      once t before s w i =
          elim (since_inv (t ∷ before) u ord s) [
            | inl p ↦
                let q = cons_is t u before ord p in
                λ (same : w.name ≡ t.name). new w (subst (In w) q.1 i) (same ∙ ap (λ (z : Txn K). z.name) q.0)
            | inr old ↦ inv.once t before old w i
          ]

      snap : (t : Txn K) (before : List (Txn K)) → Stands t before (u ∷ ord) → (g : Group) → Touches S.set t g →
          Snapshot S (e ∷ run) g t before
      snap t before s g n =
          elim (since_inv (t ∷ before) u ord s) [
            | inl p ↦
                let q = cons_is t u before ord p in
                let n' = subst (λ z. Touches S.set z g) q.0 n in
                snapshot_since S laws (step e run) g t before
                (subst (λ b. Snapshot S run g t b) (sym q.1)
                (subst (λ z. Snapshot S run g z ord) (sym q.0)
                (snapshot S laws run marked was_one ord inv u cert new g n')))
            | inr old ↦ snapshot_since S laws (step e run) g t before (inv.snap t before old g n)
          ]

      realtime : (past : Run K) (t w : Txn K) (g : Group) → Since past (e ∷ run) → Committed S past t →
          Touches S.set w g → (Posted S past g w → ⊥) → (before : List (Txn K)) → Stands w before (u ∷ ord) →
          In t before
      realtime past t w g s c n un before k =
          elim (since_inv past e run s) [
            | inl p ↦ absurd (no_newer past p w g n un ((holds w).0 (since_in w before k)))
            | inr old ↦ elim (since_inv (w ∷ before) u ord k) [
              | inl q ↦
                  subst (In t) (sym (cons_is w u before ord q).1)
                  ((inv.holds t).1 (committed_since S laws old t c))
              | inr k' ↦ inv.realtime past t w g old c n un before k'
            ]
          ]

  -- u is certified in the run before the event, if that posts nothing
  certified_before : (u : Txn K) → Committed S (e ∷ run) u →
      ((g : Group) (m : K.Message) → In m (posts (e ∷ run) g) → In m (posts run g)) → Certified S run u
  certified_before u (g, r, c) old =
      let k = certified S laws (e ∷ run) marked' one u g r c.posted c.done in
      record {
        home = g;
        posted = (c.posted.0, old g c.posted.0 c.posted.1, c.posted.2);
        board = k.board;
        message = k.message;
        stands = old k.board k.message k.stands;
        quorums = k.quorums;
      }

  next : Grows S e run → Next
  next (nothing f) = unchanged f
  next (one_more u cu old f) =
      elim (find S laws ord u.name) [
        | inl k ↦ unchanged (λ t c. elim (f t c) [ inl p ↦ again k t p c | inr b ↦ b ])
        | inr new ↦ extended u cu (certified_before u cu old) new f
      ]
    where
      again : (k : (t : Txn K) × In t ord × (t.name ≡ u.name)) (t : Txn K) → t ≡ u → Committed S (e ∷ run) t →
          Committed S run t
      again k t p c =
          let w = (inv.holds k.0).0 k.1 in
          let w' = committed_since S laws (step e run) k.0 w in
          let kt : k.0 ≡ t =
          one w'.0 c.0 k.0 t w'.2.posted c.2.posted (k.2 ∙ ap (λ (z : Txn K). z.name) (sym p)) in
          subst (Committed S run) kt w

-- the orders of the earlier moments
abbrev pub History : {K : Kinds} → System K → Run K → List (Txn K) → Type 0
History {K} S run ord = (past : Run K) → Since past run → (old : List (Txn K)) × Since old ord × Inv S past old

empty : {K : Kinds} (S : System K) → Inv S [] []
empty S =
    record {
      holds = λ t. (λ i. absurd i, λ c. absurd c.2.posted.1);
      once = λ t before s. absurd (since_nil t before s);
      snap = λ t before s. absurd (since_nil t before s);
      realtime = λ past t u g s c n f before k. absurd (since_nil u before k);
    }

pub order : {K : Kinds} (S : System K) → Laws S → FewFaulty S.set → (run : Run K) → Assumptions S run →
    (ord : List (Txn K)) × Inv S run ord × History S run ord
order S laws few [] a =
    ([], empty S, λ past s. ([], now, subst (λ r. Inv S r []) (sym (since_empty past [] s refl)) (empty S)))
order S laws few (e ∷ run) a =
    let b = assumed_before S e run a in
    let o = order S laws few run b in
    let n = next S laws e run (votes S laws few run b.unforged) (votes S laws few (e ∷ run) a.unforged)
    b.one_body a.one_body
    o.0 o.1 (grows S laws run e a.one_body) in (
      n.0,
      n.2,
      λ past s. elim (since_inv past e run s) [
        | inl p ↦ (n.0, now, subst (λ r. Inv S r n.0) (sym p) n.2)
        | inr old ↦ let h = o.2 past old in (h.0, since_trans h.1 n.1, h.2)
      ],
    )
