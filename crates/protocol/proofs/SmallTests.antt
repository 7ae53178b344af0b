-- What the tests of the small step say.
use Rattle.std.proofs.Common.{◌≡◌, ℕ, suc, Bool, true, false, ◌&&◌, ◌||◌, eqb, ltb, List, [], ◌∷◌, map, length, sym, refl, ap, ◌∙◌, inl, inr, arith}
use mathlib.Core.Bool.{false≢true}
use mathlib.Core.Option.{Option, none, some}
use Rattle.std.proofs.lemmas.Bool.Decides.{nat_tests}
use Rattle.protocol.specs.Kinds.{Group, Value}
use Rattle.protocol.specs.Lists.{In}
use Rattle.protocol.specs.Transactions.{Vote, commit, abort, Txn, Names, by_read, by_compare, by_write}
use Rattle.protocol.specs.Certificates.{Entry, Before, Rising, from}
use Rattle.protocol.specs.Conflicts.{GroupsOf, Conflict, Passes}
use Rattle.protocol.specs.Quorums.{Spread, Valid}
use Rattle.protocol.specs.Tests.{any, all, has}
use Rattle.protocol.specs.SmallMessages.{Operation, Body, small, is_some, is_value, put_at, keys, txn, Config, setting}
use Rattle.protocol.specs.SmallStep.{clashes, meets, passes, groups_of, earlier, rising, spread, valid}
use Rattle.protocol.proofs.Tests.{eq_of, same_of, all_in, all_make, any_in, any_out, in_map, map_out, has_in, in_has}

-- what is named stands among the keys
put_in : (os : List Operation) (k : ℕ) (v : Value) → put_at os k ≡ some v → In k (map (λ o. o.key) os)
put_in [] k v e = absurd (false≢true (cc))
put_in (o ∷ os) k v e = go (put_in os k v) (eqb k o.key) refl
  where
    go : (put_at os k ≡ some v → In k (map (λ o. o.key) os)) → (b : Bool) → eqb k o.key ≡ b →
        In k (map (λ o. o.key) (o ∷ os))
    go rest true h = inl (eq_of k o.key h)
    go rest false h = inr (rest (cc))

module _ (b : Body) (k : ℕ) where
  named_in : Names (txn b) k → In k (keys b)
  named_in (by_read e) = has_in (keys b) k e
  named_in (by_compare v e) =
      let r = any_out (λ (o : Operation). eqb k o.key && is_value v o.expect) b.operations e in
      let q : k ≡ r.0.key = grind (arith, nat_tests, r.2) in
      in_map (λ (o : Operation). o.key) b.operations r.0 k r.1 q
  named_in (by_write v e) = put_in b.operations k v e

  in_named : In k (keys b) → Names (txn b) k
  in_named i = by_read (in_has (keys b) k i)

some_is : (o : Option Value) → is_some o ≡ true → (v : Value) × (o ≡ some v)
some_is none e = absurd (false≢true e)
some_is (some v) e = (v, refl)

value_is : (v : Value) (o : Option Value) → is_value v o ≡ true → o ≡ some v
value_is v none e = cc
value_is v (some w) e = ap some (sym (eq_of v w e))

module _ (C : Config) where
  -- bodies that do not clash do not conflict
  pub clear : (g : Group) (a b : Body) → clashes C g a b ≡ false → Conflict (setting C) g (txn a) (txn b) → ⊥
  clear g a b e c =
      false≢true (sym e ∙
      any_in (λ k. eqb (C.home k) g && has (keys b) k &&
      (is_some (put_at a.operations k) || is_some (put_at b.operations k))) (keys a) c.key
      fits (named_in a c.key c.left))
    where
      writes : (is_some (put_at a.operations c.key) || is_some (put_at b.operations c.key)) ≡ true
      writes =
          elim c.write
          [ inl w ↦ (let s = ap is_some w.1 in grind arith) | inr w ↦ (let s = ap is_some w.1 in grind arith) ]

      fits : (eqb (C.home c.key) g && has (keys b) c.key &&
          (is_some (put_at a.operations c.key) || is_some (put_at b.operations c.key))) ≡ true
      fits = cc
          (same_of (C.home c.key) g c.homed, in_has (keys b) c.key (named_in b c.key c.right), writes)

  -- operations that pass make a body that passes
  pub all_pass : (g : Group) (b : Body) (rows : ℕ → Option Value) → all (passes C g rows) b.operations ≡ true →
      Passes (setting C) g (txn b) rows
  all_pass g b rows e = record { rowed = rowed; equal = equal }
    where
      here : (o : Operation) → In o b.operations → C.home o.key ≡ g →
          (is_some (rows o.key) && meets o.expect (rows o.key)) ≡ true
      here o i h =
          let p = all_in (passes C g rows) b.operations o e i in
          let q = same_of (C.home o.key) g h in
          grind arith

      rowed : (k : ℕ) → C.home k ≡ g → Names (txn b) k → (v : Value) × (rows k ≡ some v)
      rowed k h n =
          let r = map_out (λ (o : Operation). o.key) b.operations k (named_in b k n) in
          let p = here r.0 r.1 (ap C.home (sym r.2) ∙ h) in
          let s : is_some (rows r.0.key) ≡ true = grind arith in
          some_is (rows k) (ap (λ z. is_some (rows z)) r.2 ∙ s)

      equal : (k : ℕ) (v : Value) → C.home k ≡ g →
          any (λ o. eqb k o.key && is_value v o.expect) b.operations ≡ true → rows k ≡ some v
      equal k v h f =
          let r = any_out (λ (o : Operation). eqb k o.key && is_value v o.expect) b.operations f in
          let t = r.2 in
          let q : k ≡ r.0.key = grind (arith, nat_tests) in
          let x : is_value v r.0.expect ≡ true = grind arith in
          let p = here r.0 r.1 (ap C.home (sym q) ∙ h) in
          let m : meets r.0.expect (rows r.0.key) ≡ true = grind arith in
          let y = value_is v r.0.expect x in
          let z : is_value v (rows r.0.key) ≡ true = cc in
          ap rows q ∙ value_is v (rows r.0.key) z

  -- the list of b's groups is right
  pub groups_of_lem : (b : Body) → GroupsOf (setting C) (txn b) (groups_of C b)
  groups_of_lem b g = (
    λ i. let r = map_out C.home (keys b) g i in (r.0, sym r.2, in_named b r.0 r.1),
    λ n. in_map C.home (keys b) n.0 g (named_in b n.0 n.2) (sym n.1),
  )

-- certificates: the test of the order of entries
pub earlier_of : (e d : Entry ℕ) → earlier e d ≡ true → Before e d
earlier_of e d h = go (ltb e.group d.group) refl
  where
    go : (b : Bool) → ltb e.group d.group ≡ b → Before e d
    go true k = inl (grind (arith, nat_tests))
    go false k = inr (grind (arith, nat_tests), grind (arith, nat_tests))

earlier_is : (e d : Entry ℕ) → Before e d → earlier e d ≡ true
earlier_is e d (inl h) = grind (arith, nat_tests)
earlier_is e d (inr h) = let p = h.0 in let q = h.1 in grind (arith, nat_tests)

rising_of : (es : List (Entry ℕ)) → rising es ≡ true → Rising es
rising_of [] h = tt
rising_of (e ∷ es) h =
    let p : all (earlier e) es ≡ true = grind arith in
    let q : rising es ≡ true = grind arith in
    (λ d i. earlier_of e d (all_in (earlier e) es d p i), rising_of es q)

rising_is : (es : List (Entry ℕ)) → Rising es → rising es ≡ true
rising_is [] h = refl
rising_is (e ∷ es) h =
    let p = all_make (earlier e) es (λ d i. earlier_is e d (h.0 d i)) in
    let q = rising_is es h.1 in
    grind arith

-- the whole test is that of a valid certificate
module _ (C : Config) (t : Txn small) (gs : List Group) (theirs : GroupsOf (setting C) t gs) (es : List (Entry ℕ)) where
  abbrev all_of : Group → Bool
  all_of g = all (λ (e : Entry ℕ). eqb g e.group) es && eqb (length es) (suc C.faults)

  spread_of : (v : Vote) → spread C gs v es ≡ true → Spread (setting C) t v es
  spread_of commit h =
      let p : all (λ (e : Entry ℕ). has gs e.group) es ≡ true = grind arith in
      let q : all (λ g. eqb (length (from g es)) (suc C.faults)) gs ≡ true = grind arith in (
        λ e i. (theirs e.group).0 (has_in gs e.group (all_in (λ (e : Entry ℕ). has gs e.group) es e p i)),
        λ g n. eq_of (length (from g es)) (suc C.faults)
            (all_in (λ g. eqb (length (from g es)) (suc C.faults)) gs g q ((theirs g).1 n)),
      )
  spread_of abort h =
      let (g, i, r) = any_out all_of gs h in
      let p : all (λ (e : Entry ℕ). eqb g e.group) es ≡ true = grind arith in
      let q : length es ≡ suc C.faults = grind (arith, nat_tests) in
      (g, (theirs g).0 i, λ e j. sym (eq_of g e.group (all_in (λ (e : Entry ℕ). eqb g e.group) es e p j)), q)

  spread_is : (v : Vote) → Spread (setting C) t v es → spread C gs v es ≡ true
  spread_is commit (own, just) =
      let p = all_make (λ (e : Entry ℕ). has gs e.group) es
      (λ e i. in_has gs e.group ((theirs e.group).1 (own e i))) in
      let q = all_make (λ g. eqb (length (from g es)) (suc C.faults)) gs
      (λ g i. same_of (length (from g es)) (suc C.faults) (just g ((theirs g).0 i))) in
      grind arith
  spread_is abort (g, n, own, just) =
      let p = all_make (λ (e : Entry ℕ). eqb g e.group) es (λ e i. same_of g e.group (sym (own e i))) in
      let q = same_of (length es) (suc C.faults) just in
      any_in all_of gs g (grind arith) ((theirs g).1 n)

  module _ (x : ℕ) (v : Vote) where
    abbrev sound : Entry ℕ → Bool
    sound e = ltb e.replica C.replicas && C.genuine x v e

    pub valid_of : x ≡ t.name → valid C gs x v es ≡ true →
        Valid (setting C) t (record { name = x; vote = v; entries = es })
    valid_of n h =
        let p : rising es ≡ true = grind arith in
        let q : all sound es ≡ true = grind arith in
        let r : spread C gs v es ≡ true = grind arith in
        record {
          named = n;
          rises = rising_of es p;
          marked = λ e i. let s = all_in sound es e q i in (grind (arith, nat_tests), grind arith);
          spread = spread_of v r;
        }

    pub valid_is : Valid (setting C) t (record { name = x; vote = v; entries = es }) → valid C gs x v es ≡ true
    valid_is ok =
        let p = rising_is es ok.rises in
        let q = all_make sound es (λ e i. let s = ok.marked e i in let a = s.0 in let b = s.1 in
        grind (arith, nat_tests)) in
        let r = spread_is v ok.spread in
        grind arith
