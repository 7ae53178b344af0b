-- What a table becomes once a value that it lent comes back.
use Rattle.std.specs.Prelude.{ℕ, Option}
use Rattle.std.specs.Borrow.{Lends, LendsIf, MutBor, Fml, RattleType}
use Rattle.std.specs.declared.cmp.Ordering.{Ordering}
use Rattle.table.specs.Rows.{changed, valued}
use Rattle.table.specs.Tables.{TableModel, with_rows}
use Rattle.table.specs.contracts.owned.Table.{the_row}

-- the type of a table, as the logic names it
abbrev pub table_row : (K V : RattleType) → (K.Denot → K.Denot → Ordering) → RattleType
table_row K V cmp = the_row K V (record { order = cmp })

module _ (K V : RattleType) (cmp : K.Denot → K.Denot → Ordering) (t : MutBor (TableModel K.Denot V.Denot)) where
  -- the table ends with the value that is written last, at this place
  abbrev pub lends_value : ℕ → MutBor V.Denot → Fml
  lends_value at r = Lends (table_row K V cmp) V t r (λ v. with_rows t.now (valued t.now.rows at v))

  -- and beside this key, if it has a row
  abbrev pub lends_beside : K.Denot → Option (MutBor V.Denot) → Fml
  lends_beside k r = LendsIf (table_row K V cmp) V t r (λ v. with_rows t.now (changed cmp t.now.rows k v)) t.now
