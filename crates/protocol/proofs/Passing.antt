-- A posted message is passed after enough deliveries.
use Rattle.std.proofs.Common.{◌≡◌, ℕ, suc, ◌+◌, ◌-◌, ◌≤◌, min, Bool, true, false, cond, ◌&&◌, eqb, ◌⊎◌, List, [], ◌∷◌, ◌++◌, length, take, sym, refl, ap, ◌∙◌, subst₂, inl, inr, le_refl, arith, length-append}
use native.Mathlib.Decide.{dec_lt}
use Rattle.std.proofs.lemmas.Bool.Decides.{nat_tests}
use Rattle.protocol.specs.Kinds.{Kinds, Group, Replica}
use Rattle.protocol.specs.Lists.{Since, now, newer}
use Rattle.protocol.specs.Runs.{Event, post, deliver, other, Run, posts, place, passed}
use Rattle.protocol.specs.Ending.{Passing}
use Rattle.protocol.specs.Moves.{deliveries, PostedIsPassed}
use Rattle.protocol.proofs.Lists.{since_tail, take_add}
use Rattle.protocol.proofs.Tests.{same}
use Rattle.protocol.proofs.Runs.{place_le, length_since, take_since}

take_all : {A : Type 0} (l : List A) → take (length l) l ≡ l
take_all [] = refl
take_all (x ∷ l) = ap (λ t. x ∷ t) (take_all l)

take_one_more : {A : Type 0} (l : List A) (m : A) → take (suc (length l)) (l ++ (m ∷ [])) ≡ l ++ (m ∷ [])
take_one_more [] m = refl
take_one_more (x ∷ l) m = ap (λ t. x ∷ t) (take_one_more l m)

module _ {K : Kinds} (run : Run K) (g : Group) (r : Replica) (m : K.Message) where
  abbrev front : ℕ
  front = length (posts run g)

  posted : posts (post g m ∷ run) g ≡ posts run g ++ (m ∷ [])
  posted = ap (λ b. cond b (posts run g ++ (m ∷ [])) (posts run g)) (same g)

  longer : suc front ≤ length (posts (post g m ∷ run) g)
  longer = let e = ap length posted in let l = length-append (posts run g) (m ∷ []) in omega arith

  -- at any later moment the messages begin with those, and then m
  old_part : (l : Run K) → Since (post g m ∷ run) l → take front (posts l g) ≡ posts run g
  old_part l s =
      take_since s g front (omega (arith, longer)) ∙ ap (take front) posted ∙
      take_add (posts run g) (m ∷ []) front (le_refl _) ∙ take_all (posts run g)

  new_part : (l : Run K) → Since (post g m ∷ run) l → take (suc front) (posts l g) ≡ posts run g ++ (m ∷ [])
  new_part l s = take_since s g (suc front) longer ∙ ap (take (suc front)) posted ∙ take_one_more (posts run g) m

  -- r has passed m, right after all that was posted before it; or it is on its way
  abbrev pub Passed : Run K → Type 0
  Passed l = (p : Passing run l g r m) × (passed p.at g r ≡ posts run g)

  abbrev OnWay : Run K → Type 0
  OnWay l = (place l g r + deliveries run g r ≡ place run g r + deliveries l g r) × (place l g r ≤ front)

  moves_on : (l : Run K) → Since (post g m ∷ run) l → OnWay l → Passed (deliver g r ∷ l) ⊎ OnWay (deliver g r ∷ l)
  moves_on l s (eq, le) =
      elim (dec_lt (place l g r) front) [
        | yes lt ↦ inr (omega (arith, here, counted, room), omega (arith, here))
        | no ge ↦
            inl (
              record
                  { at = l; after = since_tail (post g m) run s; until = now; over = over (omega arith) },
              at_front
                  (omega arith),
            )
      ]
    where
      own : (eqb g g && eqb r r) ≡ true
      own = cc (same g, same r)

      here : place (deliver g r ∷ l) g r ≡ min (suc (place l g r)) (length (posts l g))
      here = ap (λ b. cond b (min (suc (place l g r)) (length (posts l g))) (place l g r)) own

      room : suc front ≤ length (posts l g)
      room = omega (arith, longer, length_since s g)

      counted : deliveries (deliver g r ∷ l) g r ≡ suc (deliveries l g r)
      counted = ap (λ b. cond b (suc (deliveries l g r)) (deliveries l g r)) own

      at_front : place l g r ≡ front → passed l g r ≡ posts run g
      at_front e = ap (λ p. take p (posts l g)) e ∙ old_part l s

      over : place l g r ≡ front → passed (deliver g r ∷ l) g r ≡ passed l g r ++ (m ∷ [])
      over e =
          let p : place (deliver g r ∷ l) g r ≡ suc front = omega (arith, here, room) in
          ap (λ p. take p (posts l g)) p ∙ new_part l s ∙ ap (λ q. q ++ (m ∷ [])) (sym (at_front e))

  next : (e : Event K) (l : Run K) → Since (post g m ∷ run) l → Passed l ⊎ OnWay l → Passed (e ∷ l) ⊎ OnWay (e ∷ l)
  next e l s (inl (p, q)) = inl (record { at = p.at; after = p.after; until = newer p.until; over = p.over }, q)
  next (post h k) l s (inr w) = inr w
  next other l s (inr w) = inr w
  next (deliver h q) l s (inr w) = go (eqb h g && eqb q r) refl
    where
      stay : (eqb h g && eqb q r) ≡ false → OnWay l → OnWay (deliver h q ∷ l)
      stay e (eq, le) =
          let p : place (deliver h q ∷ l) g r ≡ place l g r =
          ap (λ b. cond b (min (suc (place l g r)) (length (posts l g))) (place l g r)) e in
          let d : deliveries (deliver h q ∷ l) g r ≡ deliveries l g r =
          ap (λ b. cond b (suc (deliveries l g r)) (deliveries l g r)) e in
          (omega arith, omega arith)

      go : (b : Bool) → (eqb h g && eqb q r) ≡ b → Passed (deliver h q ∷ l) ⊎ OnWay (deliver h q ∷ l)
      go true e =
          let gh : g ≡ h = grind (arith, nat_tests) in
          let rq : r ≡ q = grind (arith, nat_tests) in
          subst₂ (λ a b. Passed (deliver a b ∷ l) ⊎ OnWay (deliver a b ∷ l)) gh rq (moves_on l s w)
      go false e = inr (stay e w)

  way : (l : Run K) → Since (post g m ∷ run) l → Passed l ⊎ OnWay l
  way _ now = inr (refl, place_le run g r)
  way _ (newer {a = e} {l = l} s) = next e l s (way l s)

  pub passes : (l : Run K) → Since (post g m ∷ run) l →
      deliveries run g r + suc (front - place run g r) ≤ deliveries l g r → Passed l
  passes l s many = elim (way l s) [ inl p ↦ p | inr w ↦ absurd (too_far w) ]
    where
      too_far : OnWay l → ⊥
      too_far (eq, le) = omega (arith, place_le run g r)

pub posted_is_passed : (K : Kinds) → PostedIsPassed K
posted_is_passed K run g r m later s many = (passes run g r m later s many).0
