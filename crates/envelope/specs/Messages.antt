-- What every message is: the length of what follows it, the version, a kind and the rest.
use Rattle.std.specs.Prelude.{ℕ, ◌+◌, ◌≤◌, List, [], ◌∷◌, ◌++◌, length}
use Rattle.octets.specs.Numbers.{big_endian}

-- the most bytes that a message has
abbrev pub largest_message : ℕ
largest_message = 2048

-- the version byte
abbrev pub version : ℕ
version = 1

-- the kind bytes
abbrev pub body_kind : ℕ
body_kind = 1

abbrev pub certificate_kind : ℕ
certificate_kind = 2

abbrev pub proposal_kind : ℕ
proposal_kind = 3

abbrev pub answer_kind : ℕ
answer_kind = 4

-- the first four bytes of a message of a kind that brings so many more: they count themselves but for the length
abbrev pub header : ℕ → ℕ → List ℕ
header kind size = big_endian 2 (size + 2) ++ (version ∷ kind ∷ [])

-- a message of a kind that brings these bytes
abbrev pub message : ℕ → List ℕ → List ℕ
message kind rest = header kind (length rest) ++ rest

-- a message that brings these bytes is not too long
abbrev pub Short : List ℕ → Type 0
Short rest = length rest + 4 ≤ largest_message
