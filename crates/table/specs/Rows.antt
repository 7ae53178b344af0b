-- Rows in the order of their keys: what is found in them, and what an insertion and a change leave.
use Rattle.std.specs.Prelude.{ℕ, zero, suc, ◌+◌, Bool, true, cond, ◌&&◌, List, [], ◌∷◌, Some, None, Ok, Err, Option, Result}
use Rattle.std.specs.declared.cmp.Ordering.TheVariants.{Less, Equal, Greater}
use Rattle.std.specs.declared.cmp.Ordering.{Ordering}
use Rattle.std.specs.Ordering.{is_eq, is_lt}
use Rattle.table.specs.declared.row.Row.{Row}

-- one of three, by how two keys compare
abbrev pub pick : {X : Type 0} → Ordering → X → X → X → X
pick Less below same above = below
pick Equal below same above = same
pick Greater below same above = above

-- the same place, one row further on
abbrev pub further : Result ℕ ℕ → Result ℕ ℕ
further (Ok i) = Ok (i + 1)
further (Err i) = Err (i + 1)

module _ {K V : Type 0} (cmp : K → K → Ordering) where
  -- whether a key is below that of the first row, if there is one
  abbrev pub leads : K → List (Row K V) → Bool
  leads k [] = true
  leads k (r ∷ rs) = is_lt (cmp k r.key)

  -- whether each key is below the next
  abbrev pub rising : List (Row K V) → Bool
  rising [] = true
  rising (r ∷ rs) = leads r.key rs && rising rs

  -- the value beside a key
  abbrev pub lookup : List (Row K V) → K → Option V
  lookup [] k = None
  lookup (r ∷ rs) k = cond (is_eq (cmp k r.key)) (Some r.value) (lookup rs k)

  -- where a key stands (`Ok`), or would go (`Err`)
  abbrev pub position : List (Row K V) → K → Result ℕ ℕ
  position [] k = Err 0
  position (r ∷ rs) k = pick (cmp k r.key) (Err 0) (Ok 0) (further (position rs k))

  -- the rows with one more, where the order has it; it would take the place of a row with its key
  abbrev pub insert_sorted : Row K V → List (Row K V) → List (Row K V)
  insert_sorted x [] = x ∷ []
  insert_sorted x (r ∷ rs) = pick (cmp x.key r.key) (x ∷ r ∷ rs) (x ∷ rs) (r ∷ insert_sorted x rs)

  -- the rows with another value beside a key, where it has a row
  abbrev pub changed : List (Row K V) → K → V → List (Row K V)
  changed [] k v = []
  changed (r ∷ rs) k v = cond (is_eq (cmp k r.key)) (record { key = r.key; value = v } ∷ rs) (r ∷ changed rs k v)

-- the rows with another value at a place
abbrev pub valued : {K V : Type 0} → List (Row K V) → ℕ → V → List (Row K V)
valued [] at v = []
valued (r ∷ rs) zero v = record { key = r.key; value = v } ∷ rs
valued (r ∷ rs) (suc at) v = r ∷ valued rs at v
