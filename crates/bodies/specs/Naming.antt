-- The name of a transaction.
use Rattle.std.specs.Prelude.{ℕ, List, drop}
use Rattle.digest.specs.Hash.{sha256}
use Rattle.bodies.specs.Bodies.{BodyModel, body_format}
use Rattle.envelope.specs.Formats.{Writing}

-- SHA-256 of all bytes after the two of the length
abbrev pub name_of : List ℕ → List ℕ
name_of bs = sha256 (drop 2 bs)

-- bs is the writing of a well-formed body
abbrev pub IsBody : List ℕ → Type 0
IsBody bs = (b : BodyModel) × Writing body_format bs b
