-- The hash computation over the blocks of a padded message: FIPS 180-4, sections 4.2.2, 5.2.1 and 6.2.2.
use Rattle.std.specs.Prelude.{ℕ, zero, suc, ◌+◌, ◌-◌, ◌*◌, ◌/◌, ◌^◌, List, [], ◌∷◌, ◌++◌, map, length, fold, slice_index, slice_index_or}
use Rattle.std.specs.List.{range_with_len, zip}
use Rattle.std.specs.Simd.{first_chunks}
use Rattle.digest.specs.declared.block.State.{State}
use Rattle.digest.specs.Words.{◌⊞◌, ch, maj, Σ₀, Σ₁, σ₀, σ₁}

-- the constants of the 64 rounds
abbrev pub constants : List ℕ
constants =
    0x428a2f98 ∷ 0x71374491 ∷ 0xb5c0fbcf ∷ 0xe9b5dba5 ∷ 0x3956c25b ∷ 0x59f111f1 ∷ 0x923f82a4 ∷ 0xab1c5ed5 ∷
    0xd807aa98 ∷ 0x12835b01 ∷ 0x243185be ∷ 0x550c7dc3 ∷ 0x72be5d74 ∷ 0x80deb1fe ∷ 0x9bdc06a7 ∷ 0xc19bf174 ∷
    0xe49b69c1 ∷ 0xefbe4786 ∷ 0x0fc19dc6 ∷ 0x240ca1cc ∷ 0x2de92c6f ∷ 0x4a7484aa ∷ 0x5cb0a9dc ∷ 0x76f988da ∷
    0x983e5152 ∷ 0xa831c66d ∷ 0xb00327c8 ∷ 0xbf597fc7 ∷ 0xc6e00bf3 ∷ 0xd5a79147 ∷ 0x06ca6351 ∷ 0x14292967 ∷
    0x27b70a85 ∷ 0x2e1b2138 ∷ 0x4d2c6dfc ∷ 0x53380d13 ∷ 0x650a7354 ∷ 0x766a0abb ∷ 0x81c2c92e ∷ 0x92722c85 ∷
    0xa2bfe8a1 ∷ 0xa81a664b ∷ 0xc24b8b70 ∷ 0xc76c51a3 ∷ 0xd192e819 ∷ 0xd6990624 ∷ 0xf40e3585 ∷ 0x106aa070 ∷
    0x19a4c116 ∷ 0x1e376c08 ∷ 0x2748774c ∷ 0x34b0bcb5 ∷ 0x391c0cb3 ∷ 0x4ed8aa4a ∷ 0x5b9cca4f ∷ 0x682e6ff3 ∷
    0x748f82ee ∷ 0x78a5636f ∷ 0x84c87814 ∷ 0x8cc70208 ∷ 0x90befffa ∷ 0xa4506ceb ∷ 0xbef9a3f7 ∷ 0xc67178f2 ∷ []

-- the i-th word of a block: its bytes, the highest first
abbrev pub word_at : List ℕ → ℕ → ℕ
word_at block i =
    slice_index block (4 * i) * 2 ^ 24 + slice_index block (4 * i + 1) * 2 ^ 16
    + slice_index block (4 * i + 2) * 2 ^ 8 + slice_index block (4 * i + 3)

-- the 16 words of a block
unfoldable pub words : List ℕ → List ℕ
words block = map (word_at block) (range_with_len 0 16)

-- the word of a message schedule that follows the words ws
abbrev pub next : List ℕ → ℕ
next ws =
    let t : ℕ = length ws in
    σ₁ (slice_index ws (t - 2)) ⊞ slice_index_or ws (t - 7) 0 ⊞ σ₀ (slice_index ws (t - 15)) ⊞ slice_index_or ws (t - 16) 0

-- the words ws of a message schedule, and the n words that follow them
unfoldable pub extended : List ℕ → ℕ → List ℕ
extended ws zero = ws
extended ws (suc n) = extended ws n ++ next (extended ws n) ∷ []

-- the message schedule of a block, of 64 words
unfoldable pub schedule : List ℕ → List ℕ
schedule block = extended (words block) 48

-- the working variables after a round with the constant k and the word w of the schedule
abbrev pub round : State → ℕ → ℕ → State
round s k w =
    let t₁ : ℕ = s.h ⊞ Σ₁ s.e ⊞ ch s.e s.f s.g ⊞ k ⊞ w in
    let t₂ : ℕ = Σ₀ s.a ⊞ maj s.a s.b s.c in
    record { a = t₁ ⊞ t₂; b = s.a; c = s.b; d = s.c; e = s.d ⊞ t₁; f = s.e; g = s.f; h = s.g }

-- the working variables after the rounds over a schedule ws
abbrev pub rounds : List ℕ → State → State
rounds ws s = fold (λ v p. round v p.0 p.1) s (zip constants ws)

-- the sum of two states, word by word
abbrev pub sum : State → State → State
sum s t = record {
  a = s.a ⊞ t.a;
  b = s.b ⊞ t.b;
  c = s.c ⊞ t.c;
  d = s.d ⊞ t.d;
  e = s.e ⊞ t.e;
  f = s.f ⊞ t.f;
  g = s.g ⊞ t.g;
  h = s.h ⊞ t.h;
}

-- the hash value after a block, from the hash value before it
abbrev pub compress : State → List ℕ → State
compress s block = sum s (rounds (schedule block) s)

-- the hash value after the whole blocks of bs
abbrev pub hashed : State → List ℕ → State
hashed s bs = fold compress s (first_chunks 64 (length bs / 64) bs)
