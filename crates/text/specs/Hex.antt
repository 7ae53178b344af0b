-- Bytes in hexadecimal.
use Rattle.std.specs.Prelude.{ℕ, ◌+◌, ◌-◌, ◌*◌, ◌/◌, ◌%◌, cond, ◌&&◌, false, List, [], ◌∷◌, Some, None, Option, nat_le}
use Rattle.std.specs.Fmt.{digit_glyph}

-- the value of a digit: '0' to '9', 'a' to 'f' and 'A' to 'F'
abbrev pub digit_value : ℕ → Option ℕ
digit_value c =
    cond (nat_le 48 c && nat_le c 57) (Some (c - 48))
    (cond (nat_le 97 c && nat_le c 102) (Some (c - 97 + 10)) (cond (nat_le 65 c && nat_le c 70) (Some (c - 65 + 10)) None))

-- a byte before bytes, where both are there
abbrev pub before : Option ℕ → Option (List ℕ) → Option (List ℕ)
before None rest = None
before (Some b) None = None
before (Some b) (Some bs) = Some (b ∷ bs)

-- the byte of two digits, the higher first
abbrev pub byte_of : Option ℕ → Option ℕ → Option ℕ
byte_of None low = None
byte_of (Some h) None = None
byte_of (Some h) (Some l) = Some (h * 16 + l)

-- the bytes that a text of digits says; none where their number is odd or something else is among them
abbrev pub decoded : List ℕ → Option (List ℕ)
decoded [] = Some []
decoded (h ∷ []) = None
decoded (h ∷ l ∷ rest) = before (byte_of (digit_value h) (digit_value l)) (decoded rest)

-- the two lower-case digits of a byte, the higher first
abbrev pub two_digits : ℕ → List ℕ
two_digits b = digit_glyph false (b / 16) ∷ digit_glyph false (b % 16) ∷ []
