-- An insertion into a table whose free rows stand behind the filled ones.
use Rattle.std.specs.Prelude.{ℕ, ◌+◌, Bool, true, false, cond, List, ◌++◌, length, take, drop, is_ok, Ok, Err, Result, nat_lt}
use Rattle.std.specs.declared.cmp.Ordering.{Ordering}
use Rattle.table.specs.Rows.{insert_sorted, position}
use Rattle.table.specs.declared.row.Refusal.{Refusal}
use Rattle.table.specs.declared.row.Refusal.TheVariants.{Present, Full}
use Rattle.table.specs.declared.row.Row.{Row}

-- what is answered for a place: a key that stands there is refused, and then a table without a free row
abbrev pub admitted : Result ℕ ℕ → Bool → Result ℕ Refusal
admitted (Ok i) free = Err (Present i)
admitted (Err i) true = Ok i
admitted (Err i) false = Err Full

-- how many rows are filled after this answer
abbrev pub filled_after : ℕ → Result ℕ Refusal → ℕ
filled_after filled (Ok i) = filled + 1
filled_after filled (Err e) = filled

-- and the filled rows themselves, which were the table
abbrev pub table_after : {K V : Type 0} → (K → K → Ordering) → List (Row K V) → Row K V → Result ℕ Refusal
    → List (Row K V)
table_after cmp table x (Ok i) = insert_sorted cmp x table
table_after cmp table x (Err e) = table

module _ {K V : Type 0} (cmp : K → K → Ordering) (rows : List (Row K V)) (filled : ℕ) where
  -- where a new key goes, or why it does not
  abbrev pub insert_answer : K → Result ℕ Refusal
  insert_answer k = admitted (position cmp (take filled rows) k) (nat_lt filled (length rows))

  -- all rows after it: one more is filled and one fewer free, or all are as they were
  abbrev pub insert_after : Row K V → List (Row K V)
  insert_after x =
      cond (is_ok (insert_answer x.key)) (insert_sorted cmp x (take filled rows) ++ drop (filled + 1) rows) rows
