-- The last blocks of a message, written piece by piece.
use Rattle.std.proofs.Common.{◌≡◌, ℕ, suc, ◌+◌, ◌-◌, ◌*◌, ◌%◌, ◌^◌, ◌<◌, ◌≤◌, List, ◌∷◌, ◌++◌, length, take, drop, set, replicate, sym, refl, ap, ◌∙◌, arith}
use Rattle.std.proofs.lemmas.List.{append_assoc, drop-replicate, set_at, length-append, length-replicate, replicate-append-replicate, take_at}
use Rattle.octets.specs.Buffers.{overlaid}
use Rattle.octets.specs.Numbers.{bytes64}
use Rattle.octets.proofs.Overlays.{front_overlaid}
use Rattle.digest.specs.Hash.{padding}

abbrev zeros : ℕ → List ℕ
zeros n = replicate n 0

zeros_left : (n m : ℕ) → m < n → drop (0 + m) (zeros n) ≡ 0 ∷ zeros (n - 1 - m)
zeros_left n m low =
    let e : n - (0 + m) ≡ suc (n - 1 - m) = omega arith in
    rw (drop-replicate, e)

-- a rest at the front of n zeros, with the pad bit after it
opened : (n : ℕ) (rest : List ℕ) → length rest < n
    → set (overlaid (zeros n) 0 rest) (length rest) 0x80 ≡ rest ++ 0x80 ∷ zeros (n - 1 - length rest)
opened n rest low =
    ap (λ xs. set (rest ++ xs) (length rest) 0x80) (zeros_left n (length rest) low)
    ∙ set_at rest 0 (zeros (n - 1 - length rest)) 0x80 (length rest) refl

-- of those, the front with z zeros after the pad bit
cut : (rest : List ℕ) (k z n : ℕ) → z ≤ k → n ≡ length rest + 1 + z
    → take n (rest ++ 0x80 ∷ zeros k) ≡ rest ++ 0x80 ∷ zeros z
cut rest k z n low is =
    let e : k ≡ z + (k - z) = omega arith in
    let parts : zeros k ≡ zeros z ++ zeros (k - z) =
    ap zeros e ∙ sym (replicate-append-replicate z (k - z) 0) in
    ap (λ xs. take n (rest ++ 0x80 ∷ xs)) parts
    ∙ ap (take n) (sym (append_assoc rest (0x80 ∷ zeros z) (zeros (k - z))))
    ∙ take_at (rest ++ 0x80 ∷ zeros z) (zeros (k - z)) n
    (simp (length-append, length-replicate) (omega arith))

-- the last blocks: the rest, the pad bit, and the number of bits at the end
pub padded : (rest b₁ b₂ : List ℕ) (len total : ℕ) → len ≡ length rest + 9 + (119 - length rest) % 64
    → len ≤ 128 → length rest ≡ total % 64 → b₁ ≡ overlaid (zeros 128) 0 rest
    → b₂ ≡ overlaid (set b₁ (length rest) 0x80) (len - 8) (bytes64 ((total * 8) % 2 ^ 64))
    → take len b₂ ≡ rest ++ padding total
unfolding padding
padded rest b₁ b₂ len total sized high left first is =
    let bits : List ℕ = bytes64 ((total * 8) % 2 ^ 64) in
    let z : ℕ = (119 - length rest) % 64 in
    let k : ℕ = 127 - length rest in
    let b : set b₁ (length rest) 0x80 ≡ rest ++ 0x80 ∷ zeros k =
    ap (λ xs. set xs (length rest) 0x80) first ∙ opened 128 rest (omega arith) in
    let long : length (rest ++ 0x80 ∷ zeros k) ≡ 128 = simp (length-append, length-replicate) (omega arith) in
    ap (take len) (is ∙ ap (λ xs. overlaid xs (len - 8) bits) b)
    ∙ front_overlaid (rest ++ 0x80 ∷ zeros k) bits (len - 8) len (omega arith) (omega arith)
    ∙ ap (λ xs. xs ++ bits) (cut rest k z (len - 8) (omega arith) (omega arith))
    ∙ append_assoc rest (0x80 ∷ zeros z) bits
    ∙ rw left
