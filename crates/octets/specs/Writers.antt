-- What a writer into a lent buffer has room for, and what it has written.
use Rattle.std.specs.Prelude.{◌≡◌, ℕ, ◌+◌, ◌≤◌, List, [], length, Some, None, Option}
use Rattle.octets.specs.Buffers.{overlaid}
use Rattle.octets.specs.declared.writer.Writer.{Writer}

-- these bytes fit into what is left of the buffer
abbrev pub Room : Writer → List ℕ → Type 0
Room w bs = w.at + length bs ≤ length w.out.now

-- these bytes were written into the same buffer from where the writer stood, and all others are as they were
pub record Wrote (before after : Writer) (bs : List ℕ) : Type 0 where
  pub same : after.out.ghost_name ≡ before.out.ghost_name
  pub text : after.out.now ≡ overlaid before.out.now before.at bs
  pub end : after.at ≡ before.at + length bs

-- what may be there is written as itself, and otherwise as nothing
abbrev pub optional : {X : Type 0} → (X → List ℕ) → Option X → List ℕ
optional writing (Some x) = writing x
optional writing None = []
