-- The rows after a change: which one it is, what is found, and that the keys stay.
use Rattle.std.proofs.Common.{◌≡◌, ℕ, Bool, true, false, cond, ◌&&◌, List, [], ◌∷◌, length, Some, None, Option, Ordering, sym, refl, ap, ◌∙◌, ap₂, true≢false, arith}
use Rattle.std.specs.Option.{option_map}
use Rattle.std.specs.Ordering.{is_eq}
use Rattle.std.proofs.lemmas.List.{length-map}
use Rattle.table.specs.Orders.{Laws}
use Rattle.table.specs.Rows.{changed, leads, lookup, rising}
use Rattle.table.specs.TableLaws.{keys_of}
use Rattle.table.specs.declared.row.Row.{Row}
use Rattle.table.proofs.Comparisons.{tied}

-- the row with another value
abbrev pub with_value : {K V : Type 0} → Row K V → V → Row K V
with_value r v = record { key = r.key; value = v }

module _ {K V : Type 0} (cmp : K → K → Ordering) where
  -- without a row of the key all stays
  pub changed_absent : (rs : List (Row K V)) (k : K) (v : V) → None ≡ lookup cmp rs k → rs ≡ changed cmp rs k v
  changed_absent [] k v e = refl
  changed_absent (r ∷ rs) k v e = at (is_eq (cmp k r.key)) (changed_absent rs k v) e where
    at : (b : Bool) → (None ≡ lookup cmp rs k → rs ≡ changed cmp rs k v)
        → None ≡ cond b (Some r.value) (lookup cmp rs k)
        → r ∷ rs ≡ cond b (with_value r v ∷ rs) (r ∷ changed cmp rs k v)
    at true next h = absurd (let z : ◌≡◌ {A = ℕ} 0 1 = cc in omega arith)
    at false next h = ap (λ l. r ∷ l) (next h)

  pub keys_changed : (rs : List (Row K V)) (k : K) (v : V) → keys_of (changed cmp rs k v) ≡ keys_of rs
  keys_changed [] k v = refl
  keys_changed (r ∷ rs) k v = at (is_eq (cmp k r.key)) (keys_changed rs k v) where
    at : (b : Bool) → keys_of (changed cmp rs k v) ≡ keys_of rs
        → keys_of (cond b (with_value r v ∷ rs) (r ∷ changed cmp rs k v)) ≡ keys_of (r ∷ rs)
    at true next = refl
    at false next = ap (λ l. r.key ∷ l) next

  pub length_changed : (rs : List (Row K V)) (k : K) (v : V) → length (changed cmp rs k v) ≡ length rs
  length_changed rs k v =
      sym (length-map (changed cmp rs k v) (λ r. r.key)) ∙ ap length (keys_changed rs k v) ∙ length-map rs (λ r. r.key)

  leads_changed : (l : K) (rs : List (Row K V)) (k : K) (v : V) → leads cmp l (changed cmp rs k v) ≡ leads cmp l rs
  leads_changed l [] k v = refl
  leads_changed l (r ∷ rs) k v = at (is_eq (cmp k r.key)) where
    at : (b : Bool) → leads cmp l (cond b (with_value r v ∷ rs) (r ∷ changed cmp rs k v)) ≡ leads cmp l (r ∷ rs)
    at true = refl
    at false = refl

  pub rising_changed : (rs : List (Row K V)) (k : K) (v : V) → rising cmp (changed cmp rs k v) ≡ rising cmp rs
  rising_changed [] k v = refl
  rising_changed (r ∷ rs) k v = at (is_eq (cmp k r.key)) (rising_changed rs k v) where
    at : (b : Bool) → rising cmp (changed cmp rs k v) ≡ rising cmp rs
        → rising cmp (cond b (with_value r v ∷ rs) (r ∷ changed cmp rs k v)) ≡ rising cmp (r ∷ rs)
    at true next = refl
    at false next = ap₂ ◌&&◌ (leads_changed r.key rs k v) next

  -- what is found in one more row and those behind it: k is the row's key if t, and the key that was changed if s
  other_row : (t s : Bool) (x v : V) (o o' : Option V) → (t ≡ true → s ≡ true → ⊥) → o' ≡ cond s (option_map (λ _. v) o) o
      → cond t (Some x) o' ≡ cond s (option_map (λ _. v) (cond t (Some x) o)) (cond t (Some x) o)
  other_row true true x v o o' apart e = absurd (apart refl refl)
  other_row true false x v o o' apart e = refl
  other_row false s x v o o' apart e = e

  -- the same where the row's key is the one that was changed
  changed_row : (t : Bool) (x v : V) (o : Option V)
      → cond t (Some v) o ≡ cond t (option_map (λ _. v) (cond t (Some x) o)) (cond t (Some x) o)
  changed_row true x v o = refl
  changed_row false x v o = refl

  no_row : (t : Bool) (o : Option V) → o ≡ cond t o o
  no_row true o = refl
  no_row false o = refl

  -- what is to be found under k once j has the value v
  abbrev given : List (Row K V) → K → V → K → Option V
  given rs j v k = cond (is_eq (cmp k j)) (option_map (λ _. v) (lookup cmp rs k)) (lookup cmp rs k)

  -- the key has the new value, if it has a row, and any other key what it had
  pub lookup_changed : Laws cmp → (rs : List (Row K V)) (j : K) (v : V) (k : K)
      → lookup cmp (changed cmp rs j v) k ≡ cond (is_eq (cmp k j)) (option_map (λ _. v) (lookup cmp rs k)) (lookup cmp rs k)
  lookup_changed laws [] j v k = no_row (is_eq (cmp k j)) None
  lookup_changed laws (r ∷ rs) j v k = at (is_eq (cmp j r.key)) (lookup_changed laws rs j v k) refl where
    at : (b : Bool) → lookup cmp (changed cmp rs j v) k ≡ given rs j v k → is_eq (cmp j r.key) ≡ b
        → lookup cmp (cond b (with_value r v ∷ rs) (r ∷ changed cmp rs j v)) k ≡ given (r ∷ rs) j v k
    at true next e =
        changed_row (is_eq (cmp k r.key)) r.value v (lookup cmp rs k)
        ∙ ap (λ q. cond (is_eq (cmp k q)) (option_map (λ _. v) (lookup cmp (r ∷ rs) k)) (lookup cmp (r ∷ rs) k))
        (sym ((tied cmp laws j r.key).0 e))
    at false next e =
        other_row (is_eq (cmp k r.key)) (is_eq (cmp k j)) r.value v (lookup cmp rs k) (lookup cmp (changed cmp rs j v) k)
        (λ t s.
        let same : j ≡ r.key = sym ((tied cmp laws k j).0 s) ∙ (tied cmp laws k r.key).0 t in
        true≢false (sym ((tied cmp laws j r.key).1 same) ∙ e))
        next
