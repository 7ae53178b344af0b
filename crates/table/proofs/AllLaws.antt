-- The laws of tables, from the laws of the order of their keys.
use Rattle.std.proofs.Common.{◌≡◌, List, Some, Ordering, ◌∙◌}
use Rattle.std.specs.Option.{option_map}
use Rattle.std.proofs.lemmas.Bool.{cond-false, cond-true}
use Rattle.table.specs.Orders.{Laws}
use Rattle.table.specs.Rows.{changed, insert_sorted, lookup}
use Rattle.table.specs.TableLaws.{TableLaws}
use Rattle.table.specs.declared.row.Row.{Row}
use Rattle.table.proofs.Changed.{keys_changed, length_changed, lookup_changed, rising_changed}
use Rattle.table.proofs.Comparisons.{tied, tied_other, tied_same}
use Rattle.table.proofs.Inserted.{length_inserted, lookup_inserted, rising_inserted}
use Rattle.table.proofs.Lookups.{found}

module _ {K V : Type 0} (cmp : K → K → Ordering) (laws : Laws cmp) where
  pub inserted_same : (x : Row K V) (rs : List (Row K V))
      → lookup cmp (insert_sorted cmp x rs) x.key ≡ Some x.value
  inserted_same x rs = lookup_inserted cmp laws x rs x.key ∙ cond-true _ _ _ (tied_same cmp laws x.key)

  pub inserted_other : (x : Row K V) (rs : List (Row K V)) (k : K) → (k ≡ x.key → ⊥)
      → lookup cmp (insert_sorted cmp x rs) k ≡ lookup cmp rs k
  inserted_other x rs k other =
      lookup_inserted cmp laws x rs k ∙ cond-false _ _ _ (tied_other cmp laws k x.key other)

  pub changed_same : (rs : List (Row K V)) (j : K) (v : V)
      → lookup cmp (changed cmp rs j v) j ≡ option_map (λ _. v) (lookup cmp rs j)
  changed_same rs j v = lookup_changed cmp laws rs j v j ∙ cond-true _ _ _ (tied_same cmp laws j)

  pub changed_other : (rs : List (Row K V)) (j : K) (v : V) (k : K) → (k ≡ j → ⊥)
      → lookup cmp (changed cmp rs j v) k ≡ lookup cmp rs k
  changed_other rs j v k other = lookup_changed cmp laws rs j v k ∙ cond-false _ _ _ (tied_other cmp laws k j other)

  pub table_laws : TableLaws K V cmp
  table_laws = record {
    tied = tied cmp laws;
    found = found cmp laws;
    lookup_inserted = lookup_inserted cmp laws;
    inserted_same = inserted_same;
    inserted_other = inserted_other;
    rising_inserted = rising_inserted cmp laws;
    length_inserted = length_inserted cmp;
    lookup_changed = lookup_changed cmp laws;
    changed_same = changed_same;
    changed_other = changed_other;
    keys_changed = keys_changed cmp;
    rising_changed = rising_changed cmp;
    length_changed = length_changed cmp;
  }
