-- Chunks of a list, one after another.
use Rattle.std.proofs.Common.{◌≡◌, ℕ, zero, suc, ◌+◌, ◌*◌, ◌<◌, ◌≤◌, List, ◌++◌, length, get_or, take, drop, refl, ap, ◌∙◌, zero-add, arith}
use Rattle.std.proofs.lemmas.List.{drop-append-le, drop-drop, length-drop, take-append-le}
use Rattle.std.specs.Simd.{first_chunks}

-- the chunk at an index
pub chunk_at : (size n i : ℕ) (xs d : List ℕ) → i < n → get_or (first_chunks size n xs) i d ≡ take size (drop (size * i) xs)
chunk_at size zero i xs d h = absurd (omega arith)
chunk_at size (suc n) zero xs d h = let e : size * 0 ≡ 0 = omega arith in rw e
chunk_at size (suc n) (suc i) xs d h =
    let e : size + size * i ≡ size * suc i = omega arith in
    chunk_at size n i (drop size xs) d (omega arith) ∙ ap (take size) (drop-drop (size * i) size xs ∙ ap (λ k. drop k xs) e)

-- the first m chunks, and then n more
pub chunks_split : (size m n : ℕ) (xs : List ℕ)
    → first_chunks size (m + n) xs ≡ first_chunks size m xs ++ first_chunks size n (drop (m * size) xs)
chunks_split size zero n xs = let e : 0 * size ≡ 0 = omega arith in rw (e, zero-add)
chunks_split size (suc m) n xs =
    let e : size + m * size ≡ suc m * size = omega arith in
    let s : suc m + n ≡ suc (m + n) = omega arith in
    rw (s, chunks_split size m n (drop size xs), drop-drop (m * size) size xs, e)

-- what follows whole chunks does not change them
pub chunks_front : (size n : ℕ) (xs ys : List ℕ) → n * size ≤ length xs
    → first_chunks size n (xs ++ ys) ≡ first_chunks size n xs
chunks_front size zero xs ys h = refl
chunks_front size (suc n) xs ys h =
    let long : size ≤ length xs = omega arith in
    let left : n * size ≤ length (drop size xs) = simp length-drop (omega arith) in
    rw (take-append-le size xs ys long, drop-append-le size xs ys long, chunks_front size n (drop size xs) ys left)
