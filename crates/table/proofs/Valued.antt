-- The rows after another value at a place.
use Rattle.std.proofs.Common.{◌≡◌, ℕ, zero, suc, ◌+◌, ◌<◌, ◌&&◌, List, [], ◌∷◌, length, get_or, set, take, Ok, Err, Result, Ordering, Less, Equal, Greater, cond, refl, ap, ap₂, ◌∙◌, arith}
use Rattle.std.specs.Ordering.{is_eq}
use Rattle.table.specs.Rows.{changed, further, leads, pick, position, rising, valued}
use Rattle.table.specs.declared.row.Row.{Row}

module _ {K V : Type 0} where
  pub valued_is : (rs : List (Row K V)) (at : ℕ) (d : Row K V) (v : V) → at < length rs
      → set rs at (record { key = (get_or rs at d).key; value = v }) ≡ valued rs at v
  valued_is [] at d v low = absurd (omega arith)
  valued_is (r ∷ rs) zero d v low = refl
  valued_is (r ∷ rs) (suc at) d v low = ap (λ (l : List (Row K V)). r ∷ l) (valued_is rs at d v (omega arith))

  -- the same, of the row r that was read there
  pub valued_read : (rs : List (Row K V)) (at : ℕ) (r : Row K V) (v : V) → at < length rs → r ≡ get_or rs at r
      → set rs at (record { key = r.key; value = v }) ≡ valued rs at v
  valued_read rs at r v low is =
      ap (λ (x : Row K V). set rs at (record { key = x.key; value = v })) is ∙ valued_is rs at r v low

  pub take_valued : (n : ℕ) (rs : List (Row K V)) (at : ℕ) (v : V) → take n (valued rs at v) ≡ valued (take n rs) at v
  take_valued zero rs at v = refl
  take_valued (suc n) [] at v = refl
  take_valued (suc n) (r ∷ rs) zero v = refl
  take_valued (suc n) (r ∷ rs) (suc at) v = ap (λ (l : List (Row K V)). r ∷ l) (take_valued n rs at v)

  module _ (cmp : K → K → Ordering) where
    leads_valued : (k : K) (rs : List (Row K V)) (at : ℕ) (v : V) → leads cmp k (valued rs at v) ≡ leads cmp k rs
    leads_valued k [] at v = refl
    leads_valued k (r ∷ rs) zero v = refl
    leads_valued k (r ∷ rs) (suc at) v = refl

    pub rising_valued : (rs : List (Row K V)) (at : ℕ) (v : V) → rising cmp (valued rs at v) ≡ rising cmp rs
    rising_valued [] at v = refl
    rising_valued (r ∷ rs) zero v = refl
    rising_valued (r ∷ rs) (suc at) v = ap₂ ◌&&◌ (leads_valued r.key rs at v) (rising_valued rs at v)

    -- at the place of a key, it is a change of the key's value
    pub valued_changed : (rs : List (Row K V)) (k : K) (at : ℕ) (v : V) → Ok at ≡ position cmp rs k
        → valued rs at v ≡ changed cmp rs k v
    valued_changed [] k at v e = refl
    valued_changed (r ∷ rs) k at v e = go (cmp k r.key) (position cmp rs k) (λ j. valued_changed rs k j v) refl e where
      go : (o : Ordering) (p : Result ℕ ℕ) → ((j : ℕ) → Ok j ≡ position cmp rs k → valued rs j v ≡ changed cmp rs k v)
          → p ≡ position cmp rs k → Ok at ≡ pick o (Err 0) (Ok 0) (further p)
          → valued (r ∷ rs) at v ≡ cond (is_eq o) (record { key = r.key; value = v } ∷ rs) (r ∷ changed cmp rs k v)
      go Less p next is h = absurd (let z : ◌≡◌ {A = ℕ} 0 1 = cc in omega arith)
      go Equal p next is h = let z : at ≡ 0 = cc in ap (λ n. valued (r ∷ rs) n v) z
      go Greater (Err j) next is h = absurd (let z : ◌≡◌ {A = ℕ} 0 1 = cc in omega arith)
      go Greater (Ok j) next is h =
          let z : j + 1 ≡ at = cc in
          let s : at ≡ suc j = omega arith in
          ap (λ n. valued (r ∷ rs) n v) s ∙ ap (λ (l : List (Row K V)). r ∷ l) (next j is)
