-- The functions of FIPS 180-4 on 32-bit words, sections 3.2 and 4.1.2.
use Rattle.std.specs.Prelude.{ℕ, ◌+◌, ◌-◌, ◌*◌, ◌/◌, ◌%◌, ◌^◌, ◌<◌, bit_and, bit_or, bit_xor}

infixl 65 ◌⊞◌
-- addition of words, modulo 2 ^ 32
abbrev pub ◌⊞◌ : ℕ → ℕ → ℕ
a ⊞ b = (a + b) % 2 ^ 32

-- the complement of a word
abbrev pub complement : ℕ → ℕ
complement x = 2 ^ 32 - 1 - x

-- ROTR: the word x rotated right by k bits, where 0 < k < 32
abbrev pub rotr : ℕ → ℕ → ℕ
rotr k x = bit_or (x / 2 ^ k) ((x * 2 ^ (32 - k)) % 2 ^ 32)

-- SHR: the word x shifted right by k bits
abbrev pub shr : ℕ → ℕ → ℕ
shr k x = x / 2 ^ k

-- Ch: each bit of x chooses between the bits of y and z
abbrev pub ch : ℕ → ℕ → ℕ → ℕ
ch x y z = bit_xor (bit_and x y) (bit_and (complement x) z)

-- Maj: each bit is that of at least two of x, y and z
abbrev pub maj : ℕ → ℕ → ℕ → ℕ
maj x y z = bit_xor (bit_xor (bit_and x y) (bit_and x z)) (bit_and y z)

-- a number of bits by which a word may be rotated
abbrev pub IsTurn : ℕ → Type 0
IsTurn k = (0 < k) × (k < 32)

-- the functions of a round: a word rotated by a, by b and by c bits
abbrev pub big_sigma : ℕ → ℕ → ℕ → ℕ → ℕ
big_sigma a b c x = bit_xor (bit_xor (rotr a x) (rotr b x)) (rotr c x)

abbrev pub Σ₀ : ℕ → ℕ
Σ₀ = big_sigma 2 13 22

abbrev pub Σ₁ : ℕ → ℕ
Σ₁ = big_sigma 6 11 25

-- the functions of the message schedule: a word rotated by a and by b bits, and shifted by c
abbrev pub small_sigma : ℕ → ℕ → ℕ → ℕ → ℕ
small_sigma a b c x = bit_xor (bit_xor (rotr a x) (rotr b x)) (shr c x)

abbrev pub σ₀ : ℕ → ℕ
σ₀ = small_sigma 7 18 3

abbrev pub σ₁ : ℕ → ℕ
σ₁ = small_sigma 17 19 10
