-- What stands at a place of some bytes, read off with no test; and the tests of single fields.
use Rattle.std.specs.Prelude.{ℕ, zero, suc, ◌+◌, ◌*◌, ◌^◌, Bool, List, [], ◌∷◌, length, take, drop, ◌==◌, nat_lt}
use Rattle.envelope.specs.declared.name.Name.{Name}

-- the number that bytes say, the highest first
abbrev pub number : List ℕ → ℕ
number [] = 0
number (b ∷ bs) = b * 256 ^ length bs + number bs

-- the w bytes from place p on
abbrev pub bytes_at : ℕ → ℕ → List ℕ → List ℕ
bytes_at p w bs = take w (drop p bs)

-- the number of w bytes from place p on
abbrev pub number_at : ℕ → ℕ → List ℕ → ℕ
number_at p w bs = number (bytes_at p w bs)

-- the name from place p on
abbrev pub name_at : ℕ → List ℕ → Name
name_at p bs = record { bytes = bytes_at p 32 bs }

-- n things, one after another: the first is read at the front, and the others after as many bytes as it is written in
abbrev pub in_order : {X : Type 0} → (List ℕ → X) → (X → List ℕ) → ℕ → List ℕ → List X
in_order first writing zero bs = []
in_order first writing (suc n) bs = first bs ∷ in_order first writing n (drop (length (writing (first bs))) bs)

-- whether a number fits 32 bits, and 64
abbrev pub fits32 : ℕ → Bool
fits32 n = nat_lt n (2 ^ 32)

abbrev pub fits64 : ℕ → Bool
fits64 n = nat_lt n (2 ^ 64)

-- whether a name has 32 bytes
abbrev pub fits_name : Name → Bool
fits_name x = length x.bytes == 32
