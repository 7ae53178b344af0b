-- An array's `map`, where each call leaves the closure as it was.
use Rattle.std.proofs.Common.{◌≡◌, ℕ, zero, suc, ◌+◌, List, ◌∷◌, length, drop, map, ap, ap₂, ◌∙◌, subst, arith, add-one, drop-cons}
use Rattle.std.proofs.lemmas.List.{drop_all}
use Rattle.std.proofs.lemmas.List.Folds.{flat_map-map}
use Rattle.std.specs.Array.{IsMapOf, MapsFrom}
use Rattle.std.specs.List.{flat_map}
use denote.Param.Members.{Called, Mut}

module _ {F A B : Type 0} (g : Mut F (A × Unit {0}) B) (f : F) (h : A → B)
    (says : (x : A) (y : B) (q : F) → Called g f (x, tt) y q → (y ≡ h x) × (q ≡ f)) where
  mapped_from : (xs : List A) (ys : List B) (i n : ℕ) → i + n ≡ length xs → length ys ≡ length xs
      → MapsFrom g f xs ys i n → drop i ys ≡ map h (drop i xs)
  mapped_from xs ys i zero end long each = rw (drop_all i xs (omega arith)) (drop_all i ys (omega arith))
  mapped_from xs ys i (suc n) end long each =
      let told = says each.1 each.2 each.0 each.5 in
      let rest = subst (λ (q : F). MapsFrom g q xs ys (i + 1) n) told.1 each.6 in
      let after = rw add-one at (mapped_from xs ys (i + 1) n (omega arith) long rest) in
      rw (drop-cons ys i each.2 (omega arith), drop-cons xs i each.1 (omega arith), each.3.1 each.1)
      (ap₂ ◌∷◌ (each.4.1 each.2 ∙ told.0) after)

  pub mapped : (xs : List A) (ys : List B) (n : ℕ) → length xs ≡ n → IsMapOf g f xs ys n → ys ≡ map h xs
  mapped xs ys n long is = mapped_from xs ys 0 n (omega arith) (omega arith) is.each

-- the lists that the calls give, one after another
pub flat_mapped : {F A C : Type 0} (g : Mut F (A × Unit {0}) (List C)) (f : F) (h : A → List C)
    → ((x : A) (y : List C) (q : F) → Called g f (x, tt) y q → (y ≡ h x) × (q ≡ f)) → (xs : List A) (ys : List (List C))
    (out : List C) (n : ℕ) → length xs ≡ n → IsMapOf g f xs ys n → out ≡ flat_map (λ x. x) ys → out ≡ flat_map h xs
flat_mapped g f h says xs ys out n long is flat =
    flat ∙ ap (flat_map (λ x. x)) (mapped g f h says xs ys n long is) ∙ flat_map-map (λ x. x) h xs
