-- Runs only grow: messages, places, and what a replica has passed; and each quorum rests on an honest replica's vote.
use Rattle.std.proofs.Common.{◌≡◌, ℕ, suc, ◌<◌, ◌≤◌, min, Bool, true, false, cond, ◌&&◌, eqb, ◌⊎◌, List, [], ◌∷◌, ◌++◌, length, take, refl, ap, ◌∙◌, subst, inl, inr, zero-le, le_trans, le_refl, arith, length-append}
use mathlib.Core.Option.{some}
use Rattle.protocol.specs.Kinds.{Kinds, Group, Replica}
use Rattle.protocol.specs.Lists.{In, Distinct, Since, now, newer}
use Rattle.protocol.specs.Transactions.{Vote, Txn}
use Rattle.protocol.specs.Settings.{Setting}
use Rattle.protocol.specs.Replicas.{Status, vote_of, System, status_of}
use Rattle.protocol.specs.Quorums.{HonestAt, FewFaulty, Bears, Quorum}
use Rattle.protocol.specs.Steps.{Laws}
use Rattle.protocol.specs.Runs.{Event, post, deliver, other, Run, posts, place, passed, status_at, Posted}
use Rattle.protocol.specs.Assumptions.{Unforged, Assumptions}
use Rattle.protocol.proofs.Lists.{In-left, In-split, take_add}
use Rattle.protocol.proofs.Statuses.{Later, Later-vote, later, Origin, origin}

decide : (b : Bool) → (b ≡ true) ⊎ (b ≡ false)
decide true = inl refl
decide false = inr refl

-- a list with one more at its end, or not
module _ {A : Type 0} where
  more_in : (b : Bool) (n m : A) (l : List A) → In m l → In m (cond b (l ++ (n ∷ [])) l)
  more_in true n m l i = In-left m l (n ∷ []) i
  more_in false n m l i = i

  pub more_out : (b : Bool) (n m : A) (l : List A) → In m (cond b (l ++ (n ∷ [])) l) → In m l ⊎ (m ≡ n)
  more_out true n m l i =
      elim (In-split m l (n ∷ []) i) [ inl j ↦ inl j | inr (inl e) ↦ inr e | inr (inr j) ↦ absurd j ]
  more_out false n m l i = inl i

  more_length : (b : Bool) (n : A) (l : List A) → length l ≤ length (cond b (l ++ (n ∷ [])) l)
  more_length true n l = omega (arith, length-append l (n ∷ []))
  more_length false n l = le_refl _

  more_take : (b : Bool) (n : A) (l : List A) (p : ℕ) → p ≤ length l → take p (cond b (l ++ (n ∷ [])) l) ≡ take p l
  more_take true n l p h = take_add l (n ∷ []) p h
  more_take false n l p h = refl

-- a place that moves on by one, or not
next_up : (b : Bool) (n p : ℕ) → p ≤ n → p ≤ cond b (min (suc p) n) p
next_up true n p h = omega arith
next_up false n p h = le_refl _

next_le : (b : Bool) (n p : ℕ) → p ≤ n → cond b (min (suc p) n) p ≤ n
next_le true n p h = omega arith
next_le false n p h = h

module _ {K : Kinds} where
  -- one event
  in_grow : (e : Event K) (run : Run K) (g : Group) (m : K.Message) → In m (posts run g) → In m (posts (e ∷ run) g)
  in_grow (post h n) run g m i = more_in (eqb h g) n m (posts run g) i
  in_grow (deliver h q) run g m i = i
  in_grow other run g m i = i

  length_grow : (e : Event K) (run : Run K) (g : Group) → length (posts run g) ≤ length (posts (e ∷ run) g)
  length_grow (post h n) run g = more_length (eqb h g) n (posts run g)
  length_grow (deliver h q) run g = le_refl _
  length_grow other run g = le_refl _

  take_grow : (e : Event K) (run : Run K) (g : Group) (p : ℕ) → p ≤ length (posts run g) →
      take p (posts (e ∷ run) g) ≡ take p (posts run g)
  take_grow (post h n) run g p l = more_take (eqb h g) n (posts run g) p l
  take_grow (deliver h q) run g p l = refl
  take_grow other run g p l = refl

  pub place_le : (run : Run K) (g : Group) (r : Replica) → place run g r ≤ length (posts run g)
  place_le [] g r = zero-le
  place_le (post h n ∷ run) g r = le_trans (place_le run g r) (more_length (eqb h g) n (posts run g))
  place_le (deliver h q ∷ run) g r =
      next_le (eqb h g && eqb q r) (length (posts run g)) (place run g r) (place_le run g r)
  place_le (other ∷ run) g r = place_le run g r

  place_grow : (e : Event K) (run : Run K) (g : Group) (r : Replica) → place run g r ≤ place (e ∷ run) g r
  place_grow (post h n) run g r = le_refl _
  place_grow (deliver h q) run g r =
      next_up (eqb h g && eqb q r) (length (posts run g)) (place run g r) (place_le run g r)
  place_grow other run g r = le_refl _

  pub step : (e : Event K) (run : Run K) → Since run (e ∷ run)
  step e run = newer now

  -- from a moment to any later one
  pub in_since : {past run : Run K} → Since past run → (g : Group) (m : K.Message) → In m (posts past g) →
      In m (posts run g)
  in_since now g m i = i
  in_since (newer {a = e} {l = run} s) g m i = in_grow e run g m (in_since s g m i)

  pub place_since : {past run : Run K} → Since past run → (g : Group) (r : Replica) → place past g r ≤ place run g r
  place_since now g r = le_refl _
  place_since (newer {a = e} {l = run} s) g r = le_trans (place_since s g r) (place_grow e run g r)

  pub length_since : {past run : Run K} → Since past run → (g : Group) → length (posts past g) ≤ length (posts run g)
  length_since now g = le_refl _
  length_since (newer {a = e} {l = run} s) g = le_trans (length_since s g) (length_grow e run g)

  pub take_since : {past run : Run K} → Since past run → (g : Group) (p : ℕ) → p ≤ length (posts past g) →
      take p (posts run g) ≡ take p (posts past g)
  take_since now g p h = refl
  take_since (newer {a = e} {l = run} s) g p h = take_grow e run g p (le_trans h (length_since s g)) ∙
      take_since s g p h

  -- what a replica had passed at a moment, among the messages of a later one
  pub passed_since : {past run : Run K} → Since past run → (g : Group) (r : Replica) →
      take (place past g r) (posts run g) ≡ passed past g r
  passed_since {past} s g r = take_since s g (place past g r) (place_le past g r)

  pub posted_since : (S : System K) {past run : Run K} → Since past run → (g : Group) (t : Txn K) →
      Posted S past g t → Posted S run g t
  posted_since S s g t p = (p.0, in_since s g p.0 p.1, p.2)

  -- the assumptions hold at each earlier moment too
  pub assumed_before : (S : System K) (e : Event K) (run : Run K) → Assumptions S (e ∷ run) → Assumptions S run
  assumed_before S e run a =
      record {
        unforged = λ past h m s. a.unforged past h m (newer s);
        one_body =
            λ g h t u p q. a.one_body g h t u (posted_since S (step e run) g t p) (posted_since S (step e run) h u q);
      }

module _ {K : Kinds} (S : System K) (laws : Laws S) where
  pub later_since : {past run : Run K} → Since past run → (g : Group) (r : Replica) (x : K.Name) →
      Later (status_at S past g r x) (status_at S run g r x)
  later_since {past} {run} s g r x =
      subst (λ l. Later (status_of S g l x) (status_at S run g r x)) (passed_since s g r)
      (later S laws g (posts run g) (place past g r) (place run g r) (place_since s g r) x)

  -- where the status at a replica comes from
  pub origin_at : (run : Run K) (g : Group) (r : Replica) (x : K.Name) (s : Status K) → status_at S run g r x ≡ s →
      Origin S (posts run g) x s
  origin_at run g r x s e = subst (Origin S (posts run g) x) e (origin S laws g (posts run g) (place run g r) x)

  pub vote_since : {past run : Run K} → Since past run → (g : Group) (r : Replica) (x : K.Name) (v : Vote) →
      vote_of (status_at S past g r x) ≡ some v → vote_of (status_at S run g r x) ≡ some v
  vote_since {past} {run} s g r x v = Later-vote (status_at S past g r x) (status_at S run g r x) v (later_since s g r x)

  -- each mark of an honest replica that stands in a message was given
  marks : (run : Run K) → Unforged S run → (h : Group) (m : K.Message) → In m (posts run h) →
      (g : Group) (r : Replica) (v : Vote) (x : K.Name) → HonestAt S.set g r → Bears S.set m g r v x →
      vote_of (status_at S run g r x) ≡ some v
  marks [] u h m i g r v x hon b = absurd i
  marks (post k n ∷ run) u h m i g r v x hon b =
      vote_since (step (post k n) run) g r x v
      (elim (more_out (eqb k h) n m (posts run h) i) [
        | inl old ↦ marks run (λ past h m s. u past h m (newer s)) h m old g r v x hon b
        | inr e ↦ u run k n now g r v x hon (subst (λ z. Bears S.set z g r v x) e b)
      ])
  marks (deliver k q ∷ run) u h m i g r v x hon b =
      vote_since (step (deliver k q) run) g r x v (marks run (λ past h m s. u past h m (newer s)) h m i g r v x hon b)
  marks (other ∷ run) u h m i g r v x hon b = marks run (λ past h m s. u past h m (newer s)) h m i g r v x hon b

-- among more replicas than may be faulty, one is honest
honest_one : {K : Kinds} (W : Setting K) → FewFaulty W → (g : Group) (k : K.Key) → W.home k ≡ g →
    (rs : List Replica) → Distinct rs → ((r : Replica) → In r rs → r < W.replicas) → W.faults < length rs →
    (r : Replica) × In r rs × HonestAt W g r
honest_one W few g k hk rs d there many =
    elim (one_of rs) [
      | inl (r, i, h) ↦ (r, i, (there r i, h))
      | inr n ↦ absurd (too_many (few k rs d (λ r i. (there r i, ap (λ z. W.honest z r) hk ∙ n r i))))
    ]
  where
    one_of : (qs : List Replica) →
        ((r : Replica) × In r qs × (W.honest g r ≡ true)) ⊎ ((r : Replica) → In r qs → W.honest g r ≡ false)
    one_of [] = inr (λ r i. absurd i)
    one_of (q ∷ qs) =
        elim (decide (W.honest g q)) [
          | inl h ↦ inl (q, inl refl, h)
          | inr n ↦ elim (one_of qs) [
            | inl f ↦ inl (f.0, inr f.1, f.2)
            | inr all ↦ inr (λ r i. elim i [ inl e ↦ ap (W.honest g) e ∙ n | inr j ↦ all r j ])
          ]
        ]

    too_many : length rs ≤ W.faults → ⊥
    too_many h = omega arith

-- each quorum that stands in a message has an honest replica, which has given the vote
abbrev pub Votes : {K : Kinds} → System K → Run K → Type 0
Votes {K} S run =
    (h : Group) (m : K.Message) → In m (posts run h) → (g : Group) (k : K.Key) → S.set.home k ≡ g →
    (v : Vote) (x : K.Name) → Quorum S.set m g v x →
    (r : Replica) × HonestAt S.set g r × (vote_of (status_at S run g r x) ≡ some v)

pub votes : {K : Kinds} (S : System K) → Laws S → FewFaulty S.set → (run : Run K) → Unforged S run → Votes S run
votes S laws few run un h m i g k hk v x q =
    let o = honest_one S.set few g k hk q.replicas q.distinct q.there q.many in
    (o.0, o.2, marks S laws run un h m i g o.0 v x o.2 (q.marked o.0 o.1))
