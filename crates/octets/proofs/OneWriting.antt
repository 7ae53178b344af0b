-- A number of so many bytes has one writing.
use Rattle.std.proofs.Common.{◌≡◌, ℕ, zero, suc, ◌+◌, ◌*◌, ◌/◌, ◌%◌, ◌^◌, ◌<◌, List, ◌++◌, sym, ap, ◌∙◌, mod-eq_of_lt, mul_comm, pow-suc, arith}
use lib.Arith.{mod-mul}
use Rattle.octets.specs.Numbers.{big_endian}

positive : (w : ℕ) → 0 < 256 ^ w
positive zero = omega arith
positive (suc w) = let h = positive w in rw pow-suc (omega arith)

-- the low bytes of a number: the highest of them, and the others
pub low_bytes : (w n : ℕ) → n % 256 ^ suc w ≡ (n / 256 ^ w % 256) * 256 ^ w + n % 256 ^ w
low_bytes w n = ap (λ m. n % m) (pow-suc 256 w ∙ mul_comm (256 ^ w) 256) ∙ mod-mul n (omega arith) (positive w)

-- numbers that are written alike have the same low bytes, and what follows them is the same
same_low : (w j k : ℕ) (s t : List ℕ) → big_endian w j ++ s ≡ big_endian w k ++ t
    → (j % 256 ^ w ≡ k % 256 ^ w) × (s ≡ t)
same_low zero j k s t e = (omega arith, e)
same_low (suc w) j k s t e =
    let h = same_low w j k s t (cc) in
    let d : j / 256 ^ w % 256 ≡ k / 256 ^ w % 256 = cc in
    (cc (low_bytes w j, low_bytes w k, h.0), h.1)

pub same_number : (w j k : ℕ) (s t : List ℕ) → j < 256 ^ w → k < 256 ^ w → big_endian w j ++ s ≡ big_endian w k ++ t
    → (j ≡ k) × (s ≡ t)
same_number w j k s t f g e =
    let h = same_low w j k s t e in
    (sym (mod-eq_of_lt f) ∙ h.0 ∙ mod-eq_of_lt g, h.1)
