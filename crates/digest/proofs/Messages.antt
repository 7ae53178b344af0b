-- A message in two parts.
use Rattle.std.proofs.Common.{◌≡◌, ℕ, ◌+◌, ◌*◌, ◌/◌, ◌≤◌, List, ◌++◌, length, drop, sym, ap, ◌∙◌, ap₂, arith}
use Rattle.std.proofs.lemmas.List.{append_assoc, drop_all, drop-append-le, length-append, length-drop}
use Rattle.digest.specs.declared.block.State.{State}
use Rattle.std.proofs.lemmas.List.Sums.{fold-append}
use Rattle.std.specs.Simd.{first_chunks}
use Rattle.digest.specs.Block.{compress, hashed}
use Rattle.digest.specs.Hash.{bytes_of, initial, padding, sha256}
use Rattle.digest.proofs.Chains.{chunks_front, chunks_split}

-- the whole blocks of xs first, then what they leave over, with ys after it
pub hashed_join : (s : State) (xs ys : List ℕ)
    → hashed s (xs ++ ys) ≡ hashed (hashed s xs) (drop (length xs / 64 * 64) xs ++ ys)
hashed_join s xs ys =
    let q : ℕ = length xs / 64 in
    let k : ℕ = length (drop (q * 64) xs ++ ys) / 64 in
    let low : q * 64 ≤ length xs = omega arith in
    let e : length (xs ++ ys) / 64 ≡ q + k = simp (length-append, length-drop) (omega arith) in
    rw (e, chunks_split 64 q k (xs ++ ys), chunks_front 64 q xs ys low, drop-append-le (q * 64) xs ys low)
    (fold-append compress s (first_chunks 64 q xs) _)

-- a message that begins with the block b, which is k, and goes on with m
pub sha256_after : (t : State) (b k m r : List ℕ) → length b ≡ 64 → b ≡ k → t ≡ hashed initial b
    → r ≡ bytes_of (hashed t (m ++ padding (64 + length m))) → r ≡ sha256 (k ++ m)
unfolding sha256
sha256_after t b k m r long same took is =
    let pad : List ℕ = padding (64 + length m) in
    let size : 64 + length m ≡ length (b ++ m) = simp length-append (omega arith) in
    let none : m ++ pad ≡ drop (length b / 64 * 64) b ++ (m ++ pad) =
    ap (λ xs. xs ++ (m ++ pad)) (sym (drop_all (length b / 64 * 64) b (omega arith))) in
    let made : r ≡ sha256 (b ++ m) =
    is ∙ ap bytes_of (ap₂ hashed took none ∙ sym (hashed_join initial b (m ++ pad))
    ∙ ap (hashed initial) (sym (append_assoc b m pad) ∙ ap (λ n. (b ++ m) ++ padding n) size)) in
    made ∙ ap (λ x. sha256 (x ++ m)) same
