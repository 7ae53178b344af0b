-- The rows after an insertion: where the new one stands, what is found, and that they rise.
use Rattle.std.proofs.Common.{◌≡◌, ℕ, suc, ◌+◌, Bool, true, false, cond, ◌&&◌, List, [], ◌∷◌, length, Some, None, Ok, Err, Result, Ordering, Less, Equal, Greater, sym, refl, ap, ◌∙◌, true≢false, arith}
use Rattle.std.specs.List.{insert}
use Rattle.std.specs.Ordering.{is_eq, is_lt}
use Rattle.std.proofs.lemmas.Bool.{and_from, and_parts}
use Rattle.table.specs.Orders.{Laws}
use Rattle.table.specs.Rows.{further, insert_sorted, leads, lookup, pick, position, rising}
use Rattle.table.specs.declared.row.Row.{Row}
use Rattle.table.proofs.Comparisons.{below_from_above, tied}

-- a test that was passed is not passed again
twice : {X : Type 0} (b : Bool) (x y z : X) → cond b x z ≡ cond b x (cond b y z)
twice true x y z = refl
twice false x y z = refl

-- tests that are not both passed can be made in either order
exchanged : {X : Type 0} (a b : Bool) (x y z : X) → (a ≡ true → b ≡ true → ⊥)
    → cond a x (cond b y z) ≡ cond b y (cond a x z)
exchanged true true x y z apart = absurd (apart refl refl)
exchanged true false x y z apart = refl
exchanged false b x y z apart = refl

module _ {K V : Type 0} (cmp : K → K → Ordering) where
  -- a new row goes in at the place that a search answers
  pub insert_is : (x : Row K V) (rs : List (Row K V)) (i : ℕ) → Err i ≡ position cmp rs x.key
      → insert rs i x ≡ insert_sorted cmp x rs
  insert_is x [] i e = let z : i ≡ 0 = cc in ap (λ n. insert [] n x) z
  insert_is x (r ∷ rs) i e = at (cmp x.key r.key) (position cmp rs x.key) (insert_is x rs) refl e where
    at : (o : Ordering) (p : Result ℕ ℕ)
        → ((j : ℕ) → Err j ≡ position cmp rs x.key → insert rs j x ≡ insert_sorted cmp x rs)
        → p ≡ position cmp rs x.key → Err i ≡ pick o (Err 0) (Ok 0) (further p)
        → insert (r ∷ rs) i x ≡ pick o (x ∷ r ∷ rs) (x ∷ rs) (r ∷ insert_sorted cmp x rs)
    at Less p next is h = let z : i ≡ 0 = cc in ap (λ n. insert (r ∷ rs) n x) z
    at Equal p next is h = absurd (let z : ◌≡◌ {A = ℕ} 0 1 = cc in omega arith)
    at Greater (Ok j) next is h = absurd (let z : ◌≡◌ {A = ℕ} 0 1 = cc in omega arith)
    at Greater (Err j) next is h =
        let z : j + 1 ≡ i = cc in
        let s : i ≡ suc j = omega arith in
        ap (λ n. insert (r ∷ rs) n x) s ∙ ap (λ l. r ∷ l) (next j is)

  -- a new key makes one row more
  pub length_inserted : (x : Row K V) (rs : List (Row K V)) → lookup cmp rs x.key ≡ None
      → length (insert_sorted cmp x rs) ≡ length rs + 1
  length_inserted x [] new = refl
  length_inserted x (r ∷ rs) new = at (cmp x.key r.key) (length_inserted x rs) new where
    at : (o : Ordering) → (lookup cmp rs x.key ≡ None → length (insert_sorted cmp x rs) ≡ length rs + 1)
        → cond (is_eq o) (Some r.value) (lookup cmp rs x.key) ≡ None
        → length (pick o (x ∷ r ∷ rs) (x ∷ rs) (r ∷ insert_sorted cmp x rs)) ≡ length (r ∷ rs) + 1
    at Less next h = omega arith
    at Equal next h = absurd (let z : ◌≡◌ {A = ℕ} 0 1 = cc in omega arith)
    at Greater next h = let e = next h in omega arith

  module _ (laws : Laws cmp) where
    -- the new row's key has its value, and any other key what it had
    pub lookup_inserted : (x : Row K V) (rs : List (Row K V)) (k : K)
        → lookup cmp (insert_sorted cmp x rs) k ≡ cond (is_eq (cmp k x.key)) (Some x.value) (lookup cmp rs k)
    lookup_inserted x [] k = refl
    lookup_inserted x (r ∷ rs) k = at (cmp x.key r.key) (lookup_inserted x rs k) refl where
      at : (o : Ordering)
          → lookup cmp (insert_sorted cmp x rs) k ≡ cond (is_eq (cmp k x.key)) (Some x.value) (lookup cmp rs k)
          → cmp x.key r.key ≡ o
          → lookup cmp (pick o (x ∷ r ∷ rs) (x ∷ rs) (r ∷ insert_sorted cmp x rs)) k
          ≡ cond (is_eq (cmp k x.key)) (Some x.value) (lookup cmp (r ∷ rs) k)
      at Less next e = refl
      at Equal next e =
          twice (is_eq (cmp k x.key)) (Some x.value) (Some r.value) (lookup cmp rs k)
          ∙ ap (λ q.
          cond (is_eq (cmp k x.key)) (Some x.value) (cond (is_eq (cmp k q)) (Some r.value) (lookup cmp rs k)))
          (laws.same x.key r.key e)
      at Greater next e =
          ap (cond (is_eq (cmp k r.key)) (Some r.value)) next
          ∙ exchanged (is_eq (cmp k r.key)) (is_eq (cmp k x.key)) (Some r.value) (Some x.value)
          (lookup cmp rs k)
          (λ a b.
          let same : x.key ≡ r.key = sym ((tied cmp laws k x.key).0 b) ∙ (tied cmp laws k r.key).0 a in
          true≢false (sym ((tied cmp laws x.key r.key).1 same) ∙ ap is_eq e))

    leads_inserted : (k : K) (x : Row K V) (rs : List (Row K V)) → cmp k x.key ≡ Less → leads cmp k rs ≡ true
        → leads cmp k (insert_sorted cmp x rs) ≡ true
    leads_inserted k x [] e h = ap is_lt e
    leads_inserted k x (r ∷ rs) e h = at (cmp x.key r.key) where
      at : (o : Ordering) → leads cmp k (pick o (x ∷ r ∷ rs) (x ∷ rs) (r ∷ insert_sorted cmp x rs)) ≡ true
      at Less = ap is_lt e
      at Equal = ap is_lt e
      at Greater = h

    pub rising_inserted : (x : Row K V) (rs : List (Row K V)) → rising cmp rs ≡ true
        → rising cmp (insert_sorted cmp x rs) ≡ true
    rising_inserted x [] up = refl
    rising_inserted x (r ∷ rs) up = at (cmp x.key r.key) (rising_inserted x rs parts.1) refl where
      parts : (leads cmp r.key rs ≡ true) × (rising cmp rs ≡ true)
      parts = and_parts (leads cmp r.key rs) (rising cmp rs) up

      at : (o : Ordering) → rising cmp (insert_sorted cmp x rs) ≡ true → cmp x.key r.key ≡ o
          → rising cmp (pick o (x ∷ r ∷ rs) (x ∷ rs) (r ∷ insert_sorted cmp x rs)) ≡ true
      at Less next e = and_from _ _ (ap is_lt e) up
      at Equal next e = ap (λ q. leads cmp q rs && rising cmp rs) (laws.same x.key r.key e) ∙ up
      at Greater next e =
          and_from _ _ (leads_inserted r.key x rs (below_from_above cmp laws x.key r.key e) parts.0) next
