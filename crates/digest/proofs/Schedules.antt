-- The steps of the loops that fill a schedule.
use Rattle.std.proofs.Common.{◌≡◌, ℕ, suc, ◌+◌, ◌-◌, ◌*◌, ◌<◌, ◌≤◌, List, length, get_or, take, drop, set, [], w32, lit<, add-zero, sym, ap, ◌∙◌, arith}
use Rattle.std.proofs.lemmas.List.{get_or-drop, get_or-take, length-set, length-take-le, take_more_set, take_all}
use Rattle.std.proofs.lemmas.List.FromFn.{fill_by_all}
use Rattle.std.proofs.lemmas.List.Edits.{fill_by_more}
use Rattle.std.specs.Int.{from_be_bytes}
use Rattle.std.specs.Simd.{first_chunks}
use Rattle.digest.proofs.Chains.{chunk_at}
use Rattle.digest.specs.Words.{◌⊞◌, σ₀, σ₁}
use Rattle.digest.specs.Block.{extended, next, schedule, word_at, words}

-- the first i words of w are those of the block
abbrev pub Loaded : List ℕ → List ℕ → ℕ → Type 0
Loaded w block i = (length w ≡ 64) × ((k : ℕ) → k < i → get_or w k 0 ≡ word_at block k)

-- the word of the next chunk of the block
pub words_more : (w block : List ℕ) (chunks : List (List ℕ)) (n i v : ℕ) → chunks ≡ first_chunks 4 n block → i < n
    → i < 64 → Loaded w block i → v ≡ from_be_bytes w32 (get_or chunks i []) → Loaded (set w i v) block (i + 1)
words_more w block chunks n i v cut low fits so is =
    let bs : List ℕ = drop (4 * i) block in
    let chunk : get_or chunks i [] ≡ take 4 bs = ap (λ xs. get_or xs i []) cut ∙ chunk_at 4 n i block [] low in
    let word : v ≡ word_at block i =
    rw (
      is,
      chunk,
      get_or-take 4 bs 0 0 (lit< tt),
      get_or-take 4 bs 1 0 (lit< tt),
      get_or-take 4 bs 2 0 (lit< tt),
      get_or-take 4 bs 3 0 (lit< tt),
    ) (simp (get_or-drop, add-zero)) in
    let lt : i < length w = omega arith in
    (length-set w i v ∙ so.0, rw word (fill_by_more (word_at block) w i 0 lt so.1))

pub words_all : (w block : List ℕ) (i : ℕ) → Loaded w block i → 16 ≤ i → take 16 w ≡ words block
unfolding words
words_all w block i so low =
    fill_by_all (word_at block) (take 16 w) 16 0 (length-take-le 16 w (omega arith))
    (λ k h. get_or-take 16 w k 0 h ∙ so.1 k (omega arith))

-- the next word of a schedule, by the elements of the array whose first t words are made
next_take : (w : List ℕ) (t : ℕ) → 16 ≤ t → t ≤ length w
    → next (take t w) ≡ σ₁ (get_or w (t - 2) 0) ⊞ get_or w (t - 7) 0 ⊞ σ₀ (get_or w (t - 15) 0) ⊞ get_or w (t - 16) 0
next_take w t low high =
    let a : t - 2 < t = omega arith in
    let b : t - 7 < t = omega arith in
    let c : t - 15 < t = omega arith in
    let d : t - 16 < t = omega arith in
    simp (length-take-le, get_or-take)

-- the first t words of w are made, and then one more
pub extended_more : (ws w : List ℕ) (t v : ℕ) → 16 ≤ t → t < length w → take t w ≡ extended ws (t - 16)
    → v ≡ σ₁ (get_or w (t - 2) 0) ⊞ get_or w (t - 7) 0 ⊞ σ₀ (get_or w (t - 15) 0) ⊞ get_or w (t - 16) 0
    → take (t + 1) (set w t v) ≡ extended ws (t + 1 - 16)
unfolding extended
extended_more ws w t v low high so is =
    let e : t + 1 - 16 ≡ suc (t - 16) = omega arith in
    let x : t ≤ length w = omega arith in
    let n : v ≡ next (take t w) = is ∙ sym (next_take w t low x) in
    rw (e, ← so, ← n) (take_more_set w t v high)

-- the first t words of w are those of the schedule of the block
abbrev pub Expanded : List ℕ → List ℕ → ℕ → Type 0
Expanded w block t = (length w ≡ 64) × (take t w ≡ extended (words block) (t - 16))

pub schedule_all : (w block : List ℕ) (t : ℕ) → Expanded w block t → 64 ≤ t → t ≤ 64 → w ≡ schedule block
unfolding schedule
schedule_all w block t so low high =
    let e : t ≡ 64 = omega arith in
    let x : length w ≤ 64 = omega arith in
    sym (take_all 64 w x) ∙ (rw e at so.1)
