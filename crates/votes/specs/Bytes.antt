-- Things that are told apart by a byte.
use Rattle.std.specs.Prelude.{ℕ, cond, List, [], ◌∷◌, Some, None, Option, ◌==◌}

-- the first of these things that has the byte b
abbrev pub with_byte : {X : Type 0} → (X → ℕ) → List X → ℕ → Option X
with_byte byte [] b = None
with_byte byte (x ∷ xs) b = cond (b == byte x) (Some x) (with_byte byte xs b)
