-- SHA-256 by FIPS 180-4, sections 5.1.1, 5.3.3 and 6.2, and HMAC with SHA-256 by RFC 2104, over bytes.
use Rattle.std.specs.Prelude.{ℕ, ◌-◌, ◌*◌, ◌%◌, ◌^◌, List, [], ◌∷◌, ◌++◌, map, length, replicate, bit_xor}
use Rattle.std.specs.List.{flat_map}
use Rattle.octets.specs.Numbers.{bytes32, bytes64}
use Rattle.digest.specs.declared.block.State.{State}
use Rattle.digest.specs.Block.{hashed}

-- The padding of a message of n bytes: a one bit, zero bits up to 64 bits before the end of a block, and the length
-- in bits. FIPS 180-4 has messages below 2 ^ 64 bits; beyond that the length is taken modulo 2 ^ 64.
unfoldable pub padding : ℕ → List ℕ
padding n = 0x80 ∷ replicate ((119 - n % 64) % 64) 0 ++ bytes64 ((n * 8) % 2 ^ 64)

-- the initial hash value
unfoldable pub initial : State
initial = record {
  a = 0x6a09e667;
  b = 0xbb67ae85;
  c = 0x3c6ef372;
  d = 0xa54ff53a;
  e = 0x510e527f;
  f = 0x9b05688c;
  g = 0x1f83d9ab;
  h = 0x5be0cd19;
}

-- the eight words of a hash value
abbrev pub words_of : State → List ℕ
words_of s = s.a ∷ s.b ∷ s.c ∷ s.d ∷ s.e ∷ s.f ∷ s.g ∷ s.h ∷ []

-- the 32 bytes of a hash value
unfoldable pub bytes_of : State → List ℕ
bytes_of s = flat_map bytes32 (words_of s)

-- SHA-256 of a message: the hash value after the blocks of the padded message
unfoldable pub sha256 : List ℕ → List ℕ
sha256 m = bytes_of (hashed initial (m ++ padding (length m)))

-- a key of at most 64 bytes, filled up with zeros to a block, each byte xor b
unfoldable pub keyed : List ℕ → ℕ → List ℕ
keyed key b = map (λ k. bit_xor k b) (key ++ replicate (64 - length key) 0)

-- HMAC of a message: ipad is the byte 0x36, and opad the byte 0x5c
unfoldable pub hmac : List ℕ → List ℕ → List ℕ
hmac key m = sha256 (keyed key 0x5c ++ sha256 (keyed key 0x36 ++ m))
