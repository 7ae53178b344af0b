-- What an insertion and a change leave, and what is found then, for all rows of a kind of key.
use Rattle.std.specs.Prelude.{◌≡◌, ◌+◌, true, cond, List, map, length, is_some, is_ok, Some, None, Decides, ◌≢◌}
use Rattle.std.specs.declared.cmp.Ordering.{Ordering}
use Rattle.std.specs.Option.{option_map}
use Rattle.std.specs.Ordering.{is_eq}
use Rattle.table.specs.Rows.{changed, insert_sorted, lookup, position, rising}
use Rattle.table.specs.declared.row.Row.{Row}

-- the keys of the rows, in their order
abbrev pub keys_of : {K V : Type 0} → List (Row K V) → List K
keys_of rs = map (λ r. r.key) rs

-- the laws of tables
pub record TableLaws (K V : Type 0) (cmp : K → K → Ordering) : Type 0 where
  -- two keys compare equal exactly where they are the same
  pub tied : (a b : K) → Decides (is_eq (cmp a b)) (a ≡ b)
  -- a search finds a row exactly where there is a value
  pub found : (rs : List (Row K V)) (k : K) → rising cmp rs ≡ true
      → is_ok (position cmp rs k) ≡ is_some (lookup cmp rs k)
  -- after an insertion the new row's key has its value, and any other key what it had
  pub lookup_inserted : (x : Row K V) (rs : List (Row K V)) (k : K)
      → lookup cmp (insert_sorted cmp x rs) k ≡ cond (is_eq (cmp k x.key)) (Some x.value) (lookup cmp rs k)
  pub inserted_same : (x : Row K V) (rs : List (Row K V))
      → lookup cmp (insert_sorted cmp x rs) x.key ≡ Some x.value
  pub inserted_other : (x : Row K V) (rs : List (Row K V)) (k : K) → (k ≢ x.key)
      → lookup cmp (insert_sorted cmp x rs) k ≡ lookup cmp rs k
  -- the keys still rise, and a new key makes one row more
  pub rising_inserted : (x : Row K V) (rs : List (Row K V)) → rising cmp rs ≡ true
      → rising cmp (insert_sorted cmp x rs) ≡ true
  pub length_inserted : (x : Row K V) (rs : List (Row K V)) → lookup cmp rs x.key ≡ None
      → length (insert_sorted cmp x rs) ≡ length rs + 1
  -- after a change the key has the new value, if it has a row, and any other key what it had
  pub lookup_changed : (rs : List (Row K V)) (j : K) (v : V) (k : K)
      → lookup cmp (changed cmp rs j v) k ≡ cond (is_eq (cmp k j)) (option_map (λ _. v) (lookup cmp rs k)) (lookup cmp rs k)
  pub changed_same : (rs : List (Row K V)) (j : K) (v : V)
      → lookup cmp (changed cmp rs j v) j ≡ option_map (λ _. v) (lookup cmp rs j)
  pub changed_other : (rs : List (Row K V)) (j : K) (v : V) (k : K) → (k ≢ j)
      → lookup cmp (changed cmp rs j v) k ≡ lookup cmp rs k
  -- the keys are what they were, and so are their order and number
  pub keys_changed : (rs : List (Row K V)) (j : K) (v : V) → keys_of (changed cmp rs j v) ≡ keys_of rs
  pub rising_changed : (rs : List (Row K V)) (j : K) (v : V) → rising cmp (changed cmp rs j v) ≡ rising cmp rs
  pub length_changed : (rs : List (Row K V)) (j : K) (v : V) → length (changed cmp rs j v) ≡ length rs
