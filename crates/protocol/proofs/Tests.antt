-- Computed tests on lists, and what they say.
use Rattle.std.proofs.Common.{◌≡◌, ℕ, Bool, true, false, eqb, ◌≢◌, List, [], ◌∷◌, map, sym, refl, ap, ◌∙◌, subst, inl, inr, arith}
use mathlib.Core.Bool.{false≢true}
use Rattle.std.proofs.lemmas.Bool.Decides.{nat_tests}
use Rattle.protocol.specs.Lists.{In}
use Rattle.protocol.specs.Tests.{any, all, has}

pub eq_of : (a b : ℕ) → eqb a b ≡ true → a ≡ b
eq_of a b e = grind (arith, nat_tests)

pub same_of : (a b : ℕ) → a ≡ b → eqb a b ≡ true
same_of a b e = grind (arith, nat_tests)

pub same : (a : ℕ) → eqb a a ≡ true
same a = same_of a a refl

pub differ : (a b : ℕ) → a ≢ b → eqb a b ≡ false
differ a b n = grind (arith, nat_tests)

module _ {A : Type 0} where
  pub all_in : (f : A → Bool) (xs : List A) (x : A) → all f xs ≡ true → In x xs → f x ≡ true
  all_in f [] x e i = absurd i
  all_in f (y ∷ ys) x e (inl p) = let h : f y ≡ true = grind arith in ap f p ∙ h
  all_in f (y ∷ ys) x e (inr i) = all_in f ys x (grind arith) i

  pub all_make : (f : A → Bool) (xs : List A) → ((x : A) → In x xs → f x ≡ true) → all f xs ≡ true
  all_make f [] h = refl
  all_make f (x ∷ xs) h = cc (h x (inl refl), all_make f xs (λ y i. h y (inr i)))

  pub all_out : (f : A → Bool) (xs : List A) → all f xs ≡ false → (x : A) × In x xs × (f x ≡ false)
  all_out f [] e = absurd (false≢true (sym e))
  all_out f (x ∷ xs) e = go (all_out f xs) (f x) refl
    where
      go : (all f xs ≡ false → (y : A) × In y xs × (f y ≡ false)) → (b : Bool) → f x ≡ b →
          (y : A) × In y (x ∷ xs) × (f y ≡ false)
      go rest false h = (x, inl refl, h)
      go rest true h = let r = rest (cc) in (r.0, inr r.1, r.2)

  pub any_in : (f : A → Bool) (xs : List A) (x : A) → f x ≡ true → In x xs → any f xs ≡ true
  any_in f [] x e i = absurd i
  any_in f (y ∷ ys) x e (inl p) = let h : f y ≡ true = ap f (sym p) ∙ e in cc
  any_in f (y ∷ ys) x e (inr i) = let h = any_in f ys x e i in grind arith

  pub any_none : (f : A → Bool) (xs : List A) (x : A) → any f xs ≡ false → In x xs → f x ≡ false
  any_none f xs x e i = go (f x) refl
    where
      go : (b : Bool) → f x ≡ b → f x ≡ false
      go true h = absurd (false≢true (sym e ∙ any_in f xs x h i))
      go false h = h

  pub any_out : (f : A → Bool) (xs : List A) → any f xs ≡ true → (x : A) × In x xs × (f x ≡ true)
  any_out f [] e = absurd (false≢true e)
  any_out f (y ∷ ys) e = go (any_out f ys) (f y) refl
    where
      go : (any f ys ≡ true → (x : A) × In x ys × (f x ≡ true)) → (b : Bool) → f y ≡ b →
          (x : A) × In x (y ∷ ys) × (f x ≡ true)
      go rest true h = (y, inl refl, h)
      go rest false h = let r = rest (cc) in (r.0, inr r.1, r.2)

pub has_in : (xs : List ℕ) (x : ℕ) → has xs x ≡ true → In x xs
has_in xs x e = let r = any_out (eqb x) xs e in subst (λ y. In y xs) (sym (eq_of x r.0 r.2)) r.1

pub in_has : (xs : List ℕ) (x : ℕ) → In x xs → has xs x ≡ true
in_has xs x i = any_in (eqb x) xs x (same x) i

module _ {A B : Type 0} (f : A → B) where
  pub in_map : (xs : List A) (x : A) (y : B) → In x xs → y ≡ f x → In y (map f xs)
  in_map [] x y i e = absurd i
  in_map (z ∷ zs) x y (inl p) e = inl (e ∙ ap f p)
  in_map (z ∷ zs) x y (inr i) e = inr (in_map zs x y i e)

  pub map_out : (xs : List A) (y : B) → In y (map f xs) → (x : A) × In x xs × (y ≡ f x)
  map_out [] y i = absurd i
  map_out (x ∷ xs) y (inl e) = (x, inl refl, e)
  map_out (x ∷ xs) y (inr i) = let r = map_out xs y i in (r.0, inr r.1, r.2)
