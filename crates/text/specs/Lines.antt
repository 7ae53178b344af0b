-- The lines of a text.
use Rattle.std.specs.Prelude.{ℕ, Bool, List, ◌==◌}
use Rattle.std.specs.List.{after_first, before_first}

-- whether a byte is a newline
abbrev pub is_newline : ℕ → Bool
is_newline c = c == 10

-- what stands before the first newline
abbrev pub first_line : List ℕ → List ℕ
first_line = before_first is_newline

-- what stands after it
abbrev pub after_line : List ℕ → List ℕ
after_line = after_first is_newline
