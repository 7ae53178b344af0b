-- Members that pass a test, and how many there are.
use Rattle.std.proofs.Common.{◌≡◌, ℕ, zero, suc, ◌+◌, ◌<◌, ◌≤◌, Bool, true, false, cond, not, eqb, List, [], ◌∷◌, length, sym, refl, ap, ◌∙◌, subst, inl, inr, zero-le, not-suc-le-zero, arith}
use mathlib.Core.Bool.{false≢true}
use native.Mathlib.Decide.{dec_lt}
use Rattle.protocol.specs.Lists.{In, Distinct, only}
use Rattle.protocol.proofs.Tests.{eq_of, same}

module _ {A : Type 0} (f : A → Bool) where
  pub only_in : (xs : List A) (x : A) → In x (only f xs) → In x xs × (f x ≡ true)
  only_in [] x i = absurd i
  only_in (y ∷ ys) x i = go (only_in ys x) (f y) refl i
    where
      go : (In x (only f ys) → In x ys × (f x ≡ true)) → (b : Bool) → f y ≡ b →
          In x (cond b (y ∷ only f ys) (only f ys)) → In x (y ∷ ys) × (f x ≡ true)
      go rest true h (inl e) = (inl e, ap f e ∙ h)
      go rest true h (inr j) = let r = rest j in (inr r.0, r.1)
      go rest false h j = let r = rest j in (inr r.0, r.1)

  pub in_only : (xs : List A) (x : A) → In x xs → f x ≡ true → In x (only f xs)
  in_only [] x i h = absurd i
  in_only (y ∷ ys) x i h = go (λ j. in_only ys x j h) (f y) refl i
    where
      go : (In x ys → In x (only f ys)) → (b : Bool) → f y ≡ b → In x (y ∷ ys) →
          In x (cond b (y ∷ only f ys) (only f ys))
      go rest true e (inl p) = inl p
      go rest true e (inr j) = inr (rest j)
      go rest false e (inl p) = absurd (false≢true (sym e ∙ ap f (sym p) ∙ h))
      go rest false e (inr j) = rest j

  pub only_distinct : (xs : List A) → Distinct xs → Distinct (only f xs)
  only_distinct [] d = tt
  only_distinct (x ∷ xs) d = go (only_distinct xs d.1) (f x)
    where
      go : Distinct (only f xs) → (b : Bool) → Distinct (cond b (x ∷ only f xs) (only f xs))
      go rest true = (λ i. d.0 (only_in xs x i).0, rest)
      go rest false = rest

  -- a test and its opposite
  pub only_split : (xs : List A) → length (only f xs) + length (only (λ x. not (f x)) xs) ≡ length xs
  only_split [] = refl
  only_split (x ∷ xs) = go (only_split xs) (f x)
    where
      rest_of : List A
      rest_of = only (λ x. not (f x)) xs

      go : length (only f xs) + length rest_of ≡ length xs → (b : Bool) →
          length (cond b (x ∷ only f xs) (only f xs)) + length (cond (not b) (x ∷ rest_of) rest_of) ≡ suc (length xs)
      go rest true = omega arith
      go rest false = omega arith

some_in : {A : Type 0} (xs : List A) (x : A) → In x xs → 0 < length xs
some_in [] x i = absurd i
some_in (y ∷ ys) x i = omega arith

-- one that fails the test is not counted
only_less : {A : Type 0} (f : A → Bool) (xs : List A) (x : A) → In x xs → f x ≡ false → length (only f xs) < length xs
only_less f xs x i e =
    let one = some_in (only (λ y. not (f y)) xs) x (in_only (λ y. not (f y)) xs x i (ap not e)) in
    omega (arith, only_split f xs)

-- distinct members of a list are no more than it is long
pub pigeon : (xs ys : List ℕ) → Distinct xs → ((x : ℕ) → In x xs → In x ys) → length xs ≤ length ys
pigeon [] ys d s = zero-le
pigeon (x ∷ xs) ys d s =
    let rest =
    pigeon xs (only other ys) d.1 (λ y i. in_only other ys y (s y (inr i)) (is_other y i (eqb x y) refl)) in
    let less = only_less other ys x (s x (inl refl)) (ap not (same x)) in
    omega arith
  where
    other : ℕ → Bool
    other y = not (eqb x y)

    is_other : (y : ℕ) → In y xs → (b : Bool) → eqb x y ≡ b → not b ≡ true
    is_other y i true e = absurd (d.0 (subst (λ z. In z xs) (sym (eq_of x y e)) i))
    is_other y i false e = refl

-- the numbers below n
pub below : ℕ → List ℕ
below zero = []
below (suc n) = n ∷ below n

pub below_in : (n r : ℕ) → In r (below n) → r < n
unfolding below
below_in zero r i = absurd i
below_in (suc n) r (inl e) = omega arith
below_in (suc n) r (inr i) = let h = below_in n r i in omega arith

pub in_below : (n r : ℕ) → r < n → In r (below n)
unfolding below
in_below zero r h = absurd (not-suc-le-zero h)
in_below (suc n) r h = elim (dec_lt r n) [ yes l ↦ inr (in_below n r l) | no l ↦ inl (omega arith) ]

pub below_distinct : (n : ℕ) → Distinct (below n)
unfolding below
below_distinct zero = tt
below_distinct (suc n) = ((λ i. less n (below_in n n i)), below_distinct n)
  where
    less : (k : ℕ) → k < k → ⊥
    less k h = omega arith

pub below_length : (n : ℕ) → length (below n) ≡ n
unfolding below
below_length zero = refl
below_length (suc n) = ap suc (below_length n)
