-- What a table with space for so many rows holds.
use Rattle.std.specs.Prelude.{ℕ, List}
use Rattle.table.specs.declared.row.Row.{Row}

-- its rows, in the order of their keys, and how many it has space for
pub record TableModel (K V : Type 0) : Type 0 where
  pub rows : List (Row K V)
  pub size : ℕ

-- the table with these rows
abbrev pub with_rows : {K V : Type 0} → TableModel K V → List (Row K V) → TableModel K V
with_rows t rows = record { rows = rows; size = t.size }
