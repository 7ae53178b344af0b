-- Where a key stands among rows that rise, told from how it compares with one row, with two neighbours or with all.
use Rattle.std.proofs.Common.{◌≡◌, ℕ, zero, suc, ◌-◌, ◌<◌, ◌≤◌, true, List, [], ◌∷◌, length, get_or, Ok, Err, Result, Ordering, Less, Equal, Greater, sym, refl, ap, ◌∙◌, add-one, not-suc-le-zero, arith}
use Rattle.std.specs.List.Sorted.{IsBinarySearchResult, IsSearchInRange}
use Rattle.std.specs.Ordering.{is_lt, ordering_reverse}
use Rattle.std.proofs.lemmas.List.Sorted.{searchable_from_sorted}
use Rattle.std.proofs.lemmas.Bool.{and_parts}
use Rattle.table.specs.Orders.{Laws}
use Rattle.table.specs.Rows.{further, leads, pick, position, rising}
use Rattle.table.specs.declared.row.Row.{Row}
use Rattle.table.proofs.Comparisons.{above_from_below, below_from_above, less}

module _ {K V : Type 0} (cmp : K → K → Ordering) (laws : Laws cmp) where
  -- what is below a key that is below the first row is below the first row
  pub leads_lower : (a b : K) (rs : List (Row K V)) → cmp a b ≡ Less → leads cmp b rs ≡ true → leads cmp a rs ≡ true
  leads_lower a b [] e h = refl
  leads_lower a b (r ∷ rs) e h = ap is_lt (laws.total.trans a b r.key e (less (cmp b r.key) h))

  -- and below each row
  below_each : (k : K) (rs : List (Row K V)) (i : ℕ) (d : Row K V) → leads cmp k rs ≡ true → rising cmp rs ≡ true
      → i < length rs → cmp k (get_or rs i d).key ≡ Less
  below_each k [] i d h up low = absurd (not-suc-le-zero low)
  below_each k (r ∷ rs) zero d h up low = less (cmp k r.key) h
  below_each k (r ∷ rs) (suc i) d h up low =
      let parts = and_parts (leads cmp r.key rs) (rising cmp rs) up in
      below_each k rs i d (leads_lower k r.key rs (less (cmp k r.key) h) parts.0) parts.1 (omega arith)

  -- a key that is above a row is above the first
  above_first : (r : Row K V) (rs : List (Row K V)) (k : K) (i : ℕ) (d : Row K V) → rising cmp (r ∷ rs) ≡ true
      → i < length (r ∷ rs) → cmp k (get_or (r ∷ rs) i d).key ≡ Greater → cmp k r.key ≡ Greater
  above_first r rs k zero d up low e = e
  above_first r rs k (suc i) d up low e =
      let parts = and_parts (leads cmp r.key rs) (rising cmp rs) up in
      let s = (get_or rs i d).key in
      above_from_below cmp laws r.key k
      (laws.total.trans r.key s k (below_each r.key rs i d parts.0 parts.1 (omega arith))
      (below_from_above cmp laws k s e))

  -- past a row that the key is above
  position_past : (r : Row K V) (rs : List (Row K V)) (k : K) → cmp k r.key ≡ Greater
      → position cmp (r ∷ rs) k ≡ further (position cmp rs k)
  position_past r rs k e = ap (λ o. pick o (Err 0) (Ok 0) (further (position cmp rs k))) e

  -- the key is that of the row i
  pub position_found : (rs : List (Row K V)) (k : K) (i : ℕ) (d : Row K V) → rising cmp rs ≡ true → i < length rs
      → Equal ≡ cmp k (get_or rs i d).key → Ok i ≡ position cmp rs k
  position_found [] k i d up low e = absurd (not-suc-le-zero low)
  position_found (r ∷ rs) k zero d up low e = ap (λ o. pick o (Err 0) (Ok 0) (further (position cmp rs k))) e
  position_found (r ∷ rs) k (suc i) d up low e =
      let parts = and_parts (leads cmp r.key rs) (rising cmp rs) up in
      let below : cmp r.key k ≡ Less =
      ap (cmp r.key) (laws.same k (get_or rs i d).key (sym e))
      ∙ below_each r.key rs i d parts.0 parts.1 (omega arith) in
      ap Ok (omega arith) ∙ ap further (position_found rs k i d parts.1 (omega arith) e)
      ∙ sym (position_past r rs k (above_from_below cmp laws r.key k below))

  -- the key is above the row before i, if there is one, and below the row i
  between : (rs : List (Row K V)) (k : K) (i : ℕ) (d : Row K V) → rising cmp rs ≡ true → i ≤ length rs
      → ((j : ℕ) → suc j ≡ i → cmp k (get_or rs j d).key ≡ Greater)
      → (i < length rs → cmp k (get_or rs i d).key ≡ Less) → Err i ≡ position cmp rs k
  between [] k zero d up le over under = refl
  between [] k (suc i) d up le over under = absurd (not-suc-le-zero le)
  between (r ∷ rs) k zero d up le over under =
      ap (λ o. pick o (Err 0) (Ok 0) (further (position cmp rs k))) (sym (under (omega arith)))
  between (r ∷ rs) k (suc i) d up le over under =
      let parts = and_parts (leads cmp r.key rs) (rising cmp rs) up in
      let rest =
      between rs k i d parts.1 (omega arith) (λ j e. over (suc j) (ap suc e)) (λ low. under (omega arith)) in
      ap Err (omega arith) ∙ ap further rest
      ∙ sym (position_past r rs k (above_first r rs k i d up (omega arith) (over i refl)))

  pub position_between : (rs : List (Row K V)) (k : K) (i : ℕ) → rising cmp rs ≡ true → i ≤ length rs
      → ((d : Row K V) → 0 < i → cmp k (get_or rs (i - 1) d).key ≡ Greater)
      → ((d : Row K V) → i < length rs → cmp k (get_or rs i d).key ≡ Less) → Err i ≡ position cmp rs k
  position_between [] k i up le over under = ap Err (omega arith)
  position_between (r ∷ rs) k i up le over under =
      between (r ∷ rs) k i r up le
      (λ j e.
      let same : j ≡ i - 1 = omega arith in
      ap (λ n. cmp k (get_or (r ∷ rs) n r).key) same ∙ over r (omega arith))
      (under r)

  -- the key is above each row before i, and below each from i on
  pub position_among : (rs : List (Row K V)) (k : K) (i : ℕ) → i ≤ length rs
      → ((j : ℕ) (d : Row K V) → j < i → cmp k (get_or rs j d).key ≡ Greater)
      → ((j : ℕ) (d : Row K V) → i ≤ j → j < length rs → cmp k (get_or rs j d).key ≡ Less) → Err i ≡ position cmp rs k
  position_among [] k i le over under = ap Err (omega arith)
  position_among (r ∷ rs) k zero le over under =
      ap (λ o. pick o (Err 0) (Ok 0) (further (position cmp rs k))) (sym (under 0 r (omega arith) (omega arith)))
  position_among (r ∷ rs) k (suc i) le over under =
      ap Err (omega arith)
      ∙ ap further
      (position_among rs k i (omega arith) (λ j d l. over (suc j) d (omega arith))
      (λ j d l m. under (suc j) d (omega arith) (omega arith)))
      ∙ sym (position_past r rs k (over 0 r (omega arith)))

  -- neighbours rise
  pub rising_next : (rs : List (Row K V)) (i : ℕ) (d : Row K V) → rising cmp rs ≡ true → suc i < length rs
      → cmp (get_or rs i d).key (get_or rs (suc i) d).key ≡ Less
  rising_next [] i d up low = absurd (omega arith)
  rising_next (r ∷ rs) zero d up low =
      let parts = and_parts (leads cmp r.key rs) (rising cmp rs) up in
      below_each r.key rs 0 d parts.0 parts.1 (omega arith)
  rising_next (r ∷ rs) (suc i) d up low =
      let parts = and_parts (leads cmp r.key rs) (rising cmp rs) up in
      rising_next rs i d parts.1 (omega arith)

  -- the answer of the library's search by how the keys compare with this one
  pub searched : (rs : List (Row K V)) (k : K) (r : Result ℕ ℕ) → rising cmp rs ≡ true → IsSearchInRange r (length rs)
      → IsBinarySearchResult (λ y. cmp y.key k) rs r → r ≡ position cmp rs k
  searched [] k (Ok i) up low is = absurd (not-suc-le-zero low)
  searched (x ∷ rs) k (Ok i) up low is =
      position_found (x ∷ rs) k i x up low (sym (laws.total.antisymm k _ ∙ ap ordering_reverse (is x)))
  searched rs k (Err i) up low is =
      let parts = is (searchable_from_sorted laws.total (λ r. r.key) rs k
      (λ j d l m. simp add-one (ap is_lt (above_from_below cmp laws _ _ (rising_next rs j d up (omega arith)))))) in
      position_among rs k i low (λ j d l. above_from_below cmp laws _ k (parts.0 j d (omega arith) l))
      (λ j d l m. laws.total.antisymm k _ ∙ ap ordering_reverse (parts.1 j d l m))
