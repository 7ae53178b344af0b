-- How many values an answer has.
use Rattle.std.specs.Prelude.{ℕ}

-- the most values that an answer has
abbrev pub most_values : ℕ
most_values = 16
