-- What an item stored behind the first ones and then rotated into its place leaves.
use Rattle.std.proofs.Common.{◌≡◌, ℕ, ◌+◌, ◌-◌, ◌<◌, ◌≤◌, List, [], ◌∷◌, ◌++◌, length, take, drop, set, sym, ap, ◌∙◌, append_assoc, arith, length-drop}
use borrow.Rule.Slice.PartMut.{put_mid}
use Rattle.std.specs.List.{between, insert}
use Rattle.std.proofs.lemmas.List.{drop_at, drop-drop, drop-set-add, drop-set-lt, length_push, take_at, take_more_set, take-set-le, take-take}
use Rattle.std.proofs.lemmas.Slice.{between_is}

module _ {X : Type 0} (xs : List X) (at count : ℕ) (x : X) (le : at ≤ count) (free : count < length xs) where
  -- the part that is rotated ends with the item
  part_is : take (count + 1 - at) (drop at (set xs count x)) ≡ between at count xs ++ x ∷ []
  part_is =
      let inside : count - at < length (drop at xs) = simp length-drop (omega arith) in
      let place : count ≡ at + (count - at) = omega arith in
      let size : count + 1 - at ≡ count - at + 1 = omega arith in
      ap (λ n. take (count + 1 - at) (drop at (set xs n x))) place
      ∙ ap (take (count + 1 - at)) (drop-set-add at xs (count - at) x)
      ∙ ap (λ n. take n (set (drop at xs) (count - at) x)) size
      ∙ take_more_set (drop at xs) (count - at) x inside

  -- and then begins with it
  rotated : (part ys : List X) → part ≡ between at count xs ++ x ∷ []
      → ys ≡ drop (length part - 1) part ++ take (length part - 1) part → ys ≡ x ∷ between at count xs
  rotated part ys e h =
      let b = between at count xs in
      let n : length b ≡ length part - 1 = omega (arith, ap length e, length_push b x) in
      h ∙ ap (λ p. drop (length part - 1) p ++ take (length part - 1) p) e
      ∙ ap (λ l. l ++ take (length part - 1) (b ++ x ∷ [])) (drop_at b (x ∷ []) (length part - 1) n)
      ∙ ap (λ l. x ∷ l) (take_at b (x ∷ []) (length part - 1) n)

  -- what stands before and behind that part is as it was
  around : (ys : List X) → ys ≡ x ∷ between at count xs
      → put_mid at (count + 1 - at) (set xs count x) ys ≡ insert (take count xs) at x ++ drop (count + 1) xs
  around ys e =
      let first : take at (set xs count x) ≡ take at (take count xs) =
      take-set-le at xs count x le ∙ sym (take-take at count xs le) in
      let mid : ys ≡ x ∷ drop at (take count xs) = e ∙ ap (λ l. x ∷ l) (between_is xs at count) in
      let rest : drop (count + 1 - at) (drop at (set xs count x)) ≡ drop (count + 1) xs =
      drop-drop (count + 1 - at) at (set xs count x)
      ∙ ap (λ n. drop n (set xs count x)) (omega arith) ∙ drop-set-lt (count + 1) xs count x (omega arith) in
      ap (λ l. l ++ (ys ++ drop (count + 1 - at) (drop at (set xs count x)))) first
      ∙ ap (λ l. take at (take count xs) ++ (l ++ drop (count + 1 - at) (drop at (set xs count x)))) mid
      ∙ ap (λ l. take at (take count xs) ++ ((x ∷ drop at (take count xs)) ++ l)) rest
      ∙ sym (append_assoc (take at (take count xs)) (x ∷ drop at (take count xs)) (drop (count + 1) xs))

  pub put_in : (part ys : List X) → part ≡ take (count + 1 - at) (drop at (set xs count x))
      → ys ≡ drop (length part - 1) part ++ take (length part - 1) part
      → put_mid at (count + 1 - at) (set xs count x) ys ≡ insert (take count xs) at x ++ drop (count + 1) xs
  put_in part ys is h = around ys (rotated part ys (is ∙ part_is) h)
