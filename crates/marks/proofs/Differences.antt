-- Bytes are the same where the union of their differences is zero.
use Rattle.std.proofs.Common.{◌≡◌, ℕ, Bool, true, false, eqb, List, [], ◌∷◌, ◌++◌, length, sym, refl, ap, ◌∙◌, ap₂, arith}
use lib.Bits.{and_le_l, and_le_r, bit_or, bit_xor, or_add_and, xor_assoc, xor_self, xor_zero_l, xor_zero_r}
use Rattle.std.specs.List.{fold, zip}
use Rattle.std.specs.Str.{bytes_eq}
use Rattle.std.proofs.lemmas.Slice.Eq.{bytes_eq-Decides}
use Rattle.std.proofs.lemmas.Bool.{eq-eqb, eqb-true}
use Rattle.std.proofs.lemmas.List.Sums.{fold-append}

none_in_either : (a b : ℕ) → bit_or a b ≡ 0 → (a ≡ 0) × (b ≡ 0)
none_in_either a b e =
    let sum = or_add_and a b in
    let l = and_le_l a b in
    let r = and_le_r a b in
    (omega arith, omega arith)

no_difference : (a b : ℕ) → bit_xor a b ≡ 0 → a ≡ b
no_difference a b e =
    sym (xor_zero_r a) ∙ ap (bit_xor a) (sym e) ∙ sym (xor_assoc a a b) ∙ ap (λ n. bit_xor n b) (xor_self a) ∙ xor_zero_l b

-- d, with the differences of the pairs
abbrev pub with_differences : ℕ → List (ℕ × ℕ) → ℕ
with_differences = fold (λ d p. bit_or d (bit_xor p.0 p.1))

-- one pair more
pub one_more : (ps : List (ℕ × ℕ)) (d : ℕ) (p : ℕ × ℕ) (e : ℕ) → d ≡ with_differences 0 ps
    → e ≡ bit_or d (bit_xor p.0 p.1) → e ≡ with_differences 0 (ps ++ (p ∷ []))
one_more ps d p e so is =
    is ∙ ap (λ n. bit_or n (bit_xor p.0 p.1)) so ∙ sym (fold-append (λ n q. bit_or n (bit_xor q.0 q.1)) 0 ps (p ∷ []))

none_same : (xs ys : List ℕ) (d : ℕ) → length xs ≡ length ys → with_differences d (zip xs ys) ≡ 0 → (d ≡ 0) × (xs ≡ ys)
none_same [] [] d size e = (e, refl)
none_same [] (y ∷ ys) d size e = absurd (omega arith)
none_same (x ∷ xs) [] d size e = absurd (omega arith)
none_same (x ∷ xs) (y ∷ ys) d size e =
    let rest = none_same xs ys (bit_or d (bit_xor x y)) (omega arith) e in
    let none = none_in_either d (bit_xor x y) rest.0 in
    (none.0, ap₂ (λ b l. b ∷ l) (no_difference x y none.1) rest.1)

same_none : (xs : List ℕ) (d : ℕ) → d ≡ 0 → with_differences d (zip xs xs) ≡ 0
same_none [] d e = e
same_none (x ∷ xs) d e = same_none xs (bit_or d (bit_xor x x)) (ap₂ bit_or e (xor_self x))

decided : (a b : Bool) → (a ≡ true → b ≡ true) → (b ≡ true → a ≡ true) → a ≡ b
decided true b f g = sym (f refl)
decided false true f g = g refl
decided false false f g = refl

-- the differences of all pairs tell whether the bytes are the same
pub tells_all : (xs ys : List ℕ) (d : ℕ) → length xs ≡ length ys → d ≡ with_differences 0 (zip xs ys)
    → eqb d 0 ≡ bytes_eq xs ys
tells_all xs ys d size is =
    decided (eqb d 0) (bytes_eq xs ys)
    (λ e. (bytes_eq-Decides xs ys).1 (none_same xs ys 0 size (sym is ∙ eqb-true d 0 e)).1)
    (λ e. eq-eqb d 0 (is ∙ ap (λ l. with_differences 0 (zip xs l)) (sym ((bytes_eq-Decides xs ys).0 e)) ∙ same_none xs 0 refl))
