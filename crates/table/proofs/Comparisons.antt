-- What follows from the laws of a total order for two keys.
use Rattle.std.proofs.Common.{◌≡◌, Bool, true, false, Decides, Ordering, Less, Equal, Greater, sym, refl, ap, ◌∙◌, true≢false}
use Rattle.std.specs.Ordering.{is_eq, is_gt, is_lt, ordering_reverse}
use Rattle.table.specs.Orders.{Laws}

pub less : (o : Ordering) → is_lt o ≡ true → o ≡ Less
less Less e = refl
less Equal e = absurd (true≢false (sym e))
less Greater e = absurd (true≢false (sym e))

equal : (o : Ordering) → is_eq o ≡ true → o ≡ Equal
equal Less e = absurd (true≢false (sym e))
equal Equal e = refl
equal Greater e = absurd (true≢false (sym e))

module _ {K : Type 0} (cmp : K → K → Ordering) (laws : Laws cmp) where
  pub tied_same : (x : K) → is_eq (cmp x x) ≡ true
  tied_same x = at (cmp x x) (laws.total.antisymm x x) where
    at : (o : Ordering) → o ≡ ordering_reverse o → is_eq o ≡ true
    at Less e = absurd (true≢false (ap is_lt e))
    at Equal e = refl
    at Greater e = absurd (true≢false (ap is_gt e))

  pub above_from_below : (x y : K) → cmp x y ≡ Less → cmp y x ≡ Greater
  above_from_below x y e = laws.total.antisymm y x ∙ ap ordering_reverse e

  pub below_from_above : (x y : K) → cmp x y ≡ Greater → cmp y x ≡ Less
  below_from_above x y e = laws.total.antisymm y x ∙ ap ordering_reverse e

  -- two keys compare equal exactly where they are the same
  pub tied : (x y : K) → Decides (is_eq (cmp x y)) (x ≡ y)
  tied x y = (λ e. laws.same x y (equal (cmp x y) e), λ e. ap (λ z. is_eq (cmp x z)) (sym e) ∙ tied_same x)

  pub tied_other : (x y : K) → (x ≡ y → ⊥) → is_eq (cmp x y) ≡ false
  tied_other x y other = at (is_eq (cmp x y)) (tied x y).0 where
    at : (b : Bool) → (b ≡ true → x ≡ y) → b ≡ false
    at true same = absurd (other (same refl))
    at false same = refl
