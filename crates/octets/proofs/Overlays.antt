-- What one write after another leaves in a buffer.
use Rattle.std.proofs.Common.{◌≡◌, ℕ, ◌+◌, ◌≤◌, List, [], ◌++◌, length, take, drop, sym, refl, ap, ◌∙◌, ap₂, append_assoc, append-nil, arith, length-append, take-append-drop}
use Rattle.std.proofs.lemmas.List.{length-take, length-drop, take_at, drop_at, drop-drop}
use Rattle.octets.specs.Buffers.{overlaid}

pub length_overlaid : (xs ys : List ℕ) (p : ℕ) → p + length ys ≤ length xs → length (overlaid xs p ys) ≡ length xs
length_overlaid xs ys p fits = simp (length-append, length-take, length-drop) (omega arith)

-- the front of a buffer, up to the end of what was put there
pub front_overlaid : (xs ys : List ℕ) (p n : ℕ) → p ≤ length xs → n ≡ p + length ys
    → take n (overlaid xs p ys) ≡ take p xs ++ ys
front_overlaid xs ys p n fits is =
    take_at (take p xs ++ ys) (drop (p + length ys) xs) n (simp (length-append, length-take) (omega arith))

-- the rest of a buffer, from the end of what was put there
rest_overlaid : (xs ys : List ℕ) (p k : ℕ) → p ≤ length xs
    → drop (p + length ys + k) (overlaid xs p ys) ≡ drop (p + length ys + k) xs
rest_overlaid xs ys p k fits =
    let q : ℕ = p + length ys in
    let size : length (take p xs ++ ys) ≡ q = simp (length-append, length-take) (omega arith) in
    sym (drop-drop k q (overlaid xs p ys)) ∙ ap (drop k) (drop_at (take p xs ++ ys) (drop q xs) q size)
    ∙ drop-drop k q xs

-- nothing is written
pub overlaid_none : (xs : List ℕ) (p : ℕ) → xs ≡ overlaid xs p []
overlaid_none xs p =
    let e : p ≡ p + 0 = omega arith in
    sym (take-append-drop p xs) ∙ ap₂ (λ front n. front ++ drop n xs) (sym (append-nil (take p xs))) e

-- two writes, one right after the other, are one
pub overlaid_more : (xs ys zs first source second : List ℕ) (p q : ℕ) → p ≤ length xs → first ≡ overlaid xs p ys
    → q ≡ p + length ys → source ≡ zs → second ≡ overlaid first q source → second ≡ overlaid xs p (ys ++ zs)
overlaid_more xs ys zs first source second p q fits is₁ end from is₂ =
    let size : p + length ys + length zs ≡ p + length (ys ++ zs) = simp length-append (omega arith) in
    is₂ ∙ ap (overlaid first q) from ∙ ap₂ (λ l n. overlaid l n zs) is₁ end
    ∙ ap₂ (λ front rest. front ++ zs ++ rest) (front_overlaid xs ys p (p + length ys) fits refl)
    (rest_overlaid xs ys p (length zs) fits ∙ ap (λ n. drop n xs) size)
    ∙ ap (λ front. front ++ drop (p + length (ys ++ zs)) xs) (append_assoc (take p xs) ys zs)
