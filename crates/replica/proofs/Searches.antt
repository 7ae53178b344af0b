-- What a search for a name finds, and what is left without it.
use Rattle.std.proofs.Common.{◌≡◌, ℕ, suc, ◌<◌, ◌≤◌, Bool, true, false, cond, not, ◌+◌, List, [], ◌∷◌, map, length, get_or, Some, None, sym, refl, ap, ◌∙◌, one-add, ap₂, ◌++◌, ltb, ltb-true, ltb-false, append-nil, arith}
use Rattle.std.specs.Bool.{nat_eq}
use Rattle.std.specs.Cmp.{unsigned_tied}
use Rattle.std.specs.Cmp.Lexicographic.{lists_ties, pointwise}
use Rattle.std.specs.Ordering.{nat_cmp}
use Rattle.envelope.specs.declared.name.Name.{Name}
use Rattle.replica.specs.Models.{same_name}
use Rattle.std.specs.List.{find, position, position_or_len, remove}
use Rattle.std.proofs.lemmas.List.{drop_all, take_all}
use Rattle.std.proofs.lemmas.List.Folds.{find_at}
use Rattle.std.proofs.lemmas.Option.{cond_some, slice_get-get_or, slice_get_past}
use Rattle.std.specs.Option.{option_map}
use Rattle.replica.specs.Searches.{without}

-- what `==` says of two names
pub same : (x y : Name) → pointwise nat_eq x.bytes y.bytes ≡ same_name x y
same x y = lists_ties nat_cmp (λ m n. sym (unsigned_tied m n)) x.bytes y.bytes

module _ {X Y : Type 0} (p : Y → Bool) (f : X → Y) where
  -- the first that passes is found by what it shows
  pub find_map : (xs : List X) → option_map f (find (λ x. p (f x)) xs) ≡ find p (map f xs)
  find_map [] = refl
  find_map (x ∷ xs) = at (p (f x)) (find_map xs) where
    at : (b : Bool) → option_map f (find (λ x. p (f x)) xs) ≡ find p (map f xs)
        → option_map f (cond b (Some x) (find (λ x. p (f x)) xs)) ≡ cond b (Some (f x)) (find p (map f xs))
    at true next = refl
    at false next = next

  pub without_map : (xs : List X) → without p (map f xs) ≡ map f (remove xs (position_or_len (λ x. p (f x)) xs))
  without_map [] = refl
  without_map (x ∷ xs) = at (p (f x)) (without_map xs) where
    at : (b : Bool) → without p (map f xs) ≡ map f (remove xs (position_or_len (λ x. p (f x)) xs))
        → cond b (map f xs) (f x ∷ without p (map f xs))
        ≡ map f (remove (x ∷ xs) (cond (not b) (1 + position_or_len (λ x. p (f x)) xs) 0))
    at true next = refl
    at false next = simp one-add (ap (λ ys. f x ∷ ys) next)

  abbrev test : X → Bool
  test x = p (f x)

  -- the member at the place that is answered is the first that passes, and the others are left
  pub released : (xs : List X) (i : ℕ) (x : X) → position test xs ≡ Some i → x ≡ get_or xs i x
      → (Some (f x) ≡ find p (map f xs)) × (map f (remove xs i) ≡ without p (map f xs))
  released xs i x e is =
      let n = position_or_len test xs in
      let at = cond_some (ltb n (length xs)) n i e in
      let low : n < length xs = ltb-true n (length xs) at.0 in (
        ap (λ y. Some (f y)) (is ∙ ap (λ j. get_or xs j x) (sym at.1))
            ∙ ap (option_map f) (sym (find_at test xs ∙ slice_get-get_or xs n x low)) ∙ find_map xs,
        ap (λ j. map f (remove xs j)) (sym at.1) ∙ sym (without_map xs),
      )

  past : (b : Bool) (n : ℕ) → cond b (Some n) None ≡ None → b ≡ false
  past true n e = cc
  past false n e = refl

  -- where no place is answered, none passes, and all are left
  pub kept : (xs : List X) → position test xs ≡ None → (None ≡ find p (map f xs)) × (map f xs ≡ without p (map f xs))
  kept xs e =
      let n = position_or_len test xs in
      let over : length xs ≤ n = ltb-false n (length xs) (past (ltb n (length xs)) n e) in (
        ap (option_map f) (sym (find_at test xs ∙ slice_get_past xs n over)) ∙ find_map xs,
        ap (map f) (sym (ap₂ ◌++◌ (take_all n xs over) (drop_all (suc n) xs (omega arith)) ∙ append-nil xs)) ∙ sym (without_map xs),
      )
