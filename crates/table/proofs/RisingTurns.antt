-- Whether keys rise, told by neighbours.
use Rattle.std.proofs.Common.{◌≡◌, ℕ, suc, ◌<◌, Bool, true, false, List, [], ◌∷◌, length, get_or, Ordering, sym, refl, ap, ◌∙◌, true≢false, add-one, arith}
use Rattle.std.specs.List.{IsAllAdjacentAnswer}
use Rattle.std.specs.Ordering.{is_lt}
use Rattle.std.proofs.lemmas.Bool.{and_from}
use Rattle.table.specs.Orders.{Laws}
use Rattle.table.specs.Rows.{rising}
use Rattle.table.specs.declared.row.Row.{Row}
use Rattle.table.proofs.Places.{rising_next}

module _ {K V : Type 0} (cmp : K → K → Ordering) (laws : Laws cmp) where
  rising_from_next : (rs : List (Row K V)) → ((i : ℕ) (d : Row K V) → suc i < length rs → true ≡ is_lt (cmp (get_or rs i d).key (get_or rs (suc i) d).key))
      → rising cmp rs ≡ true
  rising_from_next [] next = refl
  rising_from_next (r ∷ []) next = refl
  rising_from_next (r ∷ s ∷ rs) next =
      and_from _ _ (sym (next 0 r (omega arith))) (rising_from_next (s ∷ rs) (λ i d low. next (suc i) d (omega arith)))

  -- the answer of the library's test of neighbours
  pub rises : (rs : List (Row K V)) (b : Bool) → IsAllAdjacentAnswer (λ x y b. b ≡ is_lt (cmp x.key y.key)) rs b
      → b ≡ rising cmp rs
  rises rs true next = sym (rising_from_next rs (λ i d low. simp add-one at (next i d (omega arith))))
  rises [] false next = absurd (omega (arith, next.1))
  rises (r ∷ rs) false next = at (rising cmp (r ∷ rs)) refl where
    at : (c : Bool) → rising cmp (r ∷ rs) ≡ c → false ≡ c
    at true up =
        absurd (true≢false (sym (simp add-one at (next.2 r) ∙ ap is_lt (rising_next cmp laws (r ∷ rs) next.0 r up (omega (arith, next.1))))))
    at false up = refl
