-- What is looked up, by the place that a search answers.
use Rattle.std.proofs.Common.{◌≡◌, ℕ, suc, ◌+◌, true, cond, List, [], ◌∷◌, get_or, is_some, is_ok, Some, None, Ok, Err, Result, Ordering, Less, Equal, Greater, sym, refl, ap, ◌∙◌, arith}
use Rattle.std.specs.Ordering.{is_eq}
use Rattle.std.proofs.lemmas.Bool.{and_parts}
use Rattle.table.specs.Orders.{Laws}
use Rattle.table.specs.Rows.{further, leads, lookup, pick, position, rising}
use Rattle.table.specs.declared.row.Row.{Row}
use Rattle.table.proofs.Comparisons.{less}
use Rattle.table.proofs.Places.{leads_lower}

module _ {K V : Type 0} (cmp : K → K → Ordering) where
  -- a key that stands at i has the value there
  pub lookup_present : (rs : List (Row K V)) (k : K) (i : ℕ) (d : Row K V) → Ok i ≡ position cmp rs k
      → Some (get_or rs i d).value ≡ lookup cmp rs k
  lookup_present [] k i d e = absurd (let z : ◌≡◌ {A = ℕ} 0 1 = cc in omega arith)
  lookup_present (r ∷ rs) k i d e = at (cmp k r.key) (position cmp rs k) (λ j. lookup_present rs k j d) refl e where
    at : (o : Ordering) (p : Result ℕ ℕ)
        → ((j : ℕ) → Ok j ≡ position cmp rs k → Some (get_or rs j d).value ≡ lookup cmp rs k)
        → p ≡ position cmp rs k → Ok i ≡ pick o (Err 0) (Ok 0) (further p)
        → Some (get_or (r ∷ rs) i d).value ≡ cond (is_eq o) (Some r.value) (lookup cmp rs k)
    at Less p next is h = absurd (let z : ◌≡◌ {A = ℕ} 0 1 = cc in omega arith)
    at Equal p next is h = let z : i ≡ 0 = cc in ap (λ n. Some (get_or (r ∷ rs) n d).value) z
    at Greater (Err j) next is h = absurd (let z : ◌≡◌ {A = ℕ} 0 1 = cc in omega arith)
    at Greater (Ok j) next is h =
        let z : j + 1 ≡ i = cc in
        let s : i ≡ suc j = omega arith in
        ap (λ n. Some (get_or (r ∷ rs) n d).value) s ∙ next j is

  module _ (laws : Laws cmp) where
    -- a key below the first row has no value
    lookup_below : (rs : List (Row K V)) (k : K) → leads cmp k rs ≡ true → rising cmp rs ≡ true → None ≡ lookup cmp rs k
    lookup_below [] k h up = refl
    lookup_below (r ∷ rs) k h up =
        let e = less (cmp k r.key) h in
        let parts = and_parts (leads cmp r.key rs) (rising cmp rs) up in
        lookup_below rs k (leads_lower cmp laws k r.key rs e parts.0) parts.1
        ∙ ap (λ o. cond (is_eq o) (Some r.value) (lookup cmp rs k)) (sym e)

    -- a key that does not stand anywhere has no value
    pub lookup_absent : (rs : List (Row K V)) (k : K) (i : ℕ) → rising cmp rs ≡ true → Err i ≡ position cmp rs k
        → None ≡ lookup cmp rs k
    lookup_absent [] k i up e = refl
    lookup_absent (r ∷ rs) k i up e =
        at (cmp k r.key) (position cmp rs k) (λ j. lookup_absent rs k j parts.1) refl refl e where
          parts : (leads cmp r.key rs ≡ true) × (rising cmp rs ≡ true)
          parts = and_parts (leads cmp r.key rs) (rising cmp rs) up

          at : (o : Ordering) (p : Result ℕ ℕ) → ((j : ℕ) → Err j ≡ position cmp rs k → None ≡ lookup cmp rs k)
              → cmp k r.key ≡ o → p ≡ position cmp rs k → Err i ≡ pick o (Err 0) (Ok 0) (further p)
              → None ≡ cond (is_eq o) (Some r.value) (lookup cmp rs k)
          at Less p next f is h = lookup_below rs k (leads_lower cmp laws k r.key rs f parts.0) parts.1
          at Equal p next f is h = absurd (let z : ◌≡◌ {A = ℕ} 0 1 = cc in omega arith)
          at Greater (Ok j) next f is h = absurd (let z : ◌≡◌ {A = ℕ} 0 1 = cc in omega arith)
          at Greater (Err j) next f is h = next j is

    -- a search finds a row exactly where there is a value
    pub found : (rs : List (Row K V)) (k : K) → rising cmp rs ≡ true
        → is_ok (position cmp rs k) ≡ is_some (lookup cmp rs k)
    found [] k up = refl
    found (r ∷ rs) k up = at (position cmp (r ∷ rs) k) refl where
      at : (p : Result ℕ ℕ) → p ≡ position cmp (r ∷ rs) k → is_ok p ≡ is_some (lookup cmp (r ∷ rs) k)
      at (Ok i) e = ap is_some (lookup_present (r ∷ rs) k i r e)
      at (Err i) e = ap is_some (lookup_absent (r ∷ rs) k i up e)
