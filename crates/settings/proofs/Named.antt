-- The groups that a transaction names, as a test and as the protocol has them.
use Rattle.std.proofs.Common.{◌≡◌, ℕ, Bool, true, false, eqb, List, [], ◌∷◌, sym, refl, ap, ◌∙◌, inl, inr, arith}
use mathlib.Core.Bool.{false≢true}
use mathlib.Core.Option.{Option, none, some}
use Rattle.bodies.specs.Operations.{key_of}
use Rattle.bodies.specs.declared.operation.Operation.{Operation}
use Rattle.bodies.specs.declared.operation.Operation.TheVariants.{Read, Write, Compare}
use Rattle.envelope.specs.declared.name.Name.{Name}
use Rattle.locks.specs.Groups.{group_of, is_local, names_group}
use Rattle.protocol.specs.Conflicts.{Touches}
use Rattle.protocol.specs.Lists.{In}
use Rattle.protocol.specs.Transactions.{Names, by_read, by_compare, by_write}
use Rattle.protocol.proofs.Tests.{any_in, any_out, eq_of, same, same_of}
use Rattle.settings.specs.Named.{NamedGroups}
use Rattle.settings.specs.Settings.{setting}
use Rattle.settings.specs.Transactions.{compares_at, reads_at, txn, write_over, writes_over}

-- a write that came before stays, or is written over
written_stays : (k v : ℕ) (os : List Operation) → (w : ℕ) × (writes_over k os (some v) ≡ some w)
written_stays k v [] = (v, refl)
written_stays k v (Read j ∷ os) = written_stays k v os
written_stays k v (Compare j w ∷ os) = written_stays k v os
written_stays k v (Write j w ∷ os) = go (written_stays k w os) (written_stays k v os) (eqb j k) refl
  where
    go : (u : ℕ) × (writes_over k os (some w) ≡ some u) → (u : ℕ) × (writes_over k os (some v) ≡ some u) →
        (b : Bool) → eqb j k ≡ b → (u : ℕ) × (writes_over k (Write j w ∷ os) (some v) ≡ some u)
    go new old true e = (new.0, cc new.1)
    go new old false e = (old.0, cc old.1)

-- an operation's key is named
write_named : (k v : ℕ) (os : List Operation) (before : Option ℕ) → In (Write k v) os →
    (w : ℕ) × (writes_over k os before ≡ some w)
write_named k v [] before i = absurd i
write_named k v (o ∷ os) before (inl e) =
    let r = written_stays k v os in
    (r.0, ap (λ (p : Operation). writes_over k os (write_over k p before)) (sym e) ∙ cc (same k, r.1))
write_named k v (o ∷ os) before (inr i) = write_named k v os (write_over k o before) i

pub op_named : (x : Name) (os : List Operation) (o : Operation) → In o os → Names (txn x os) (key_of o)
op_named x os (Read k) i = by_read (any_in (reads_at k) os (Read k) (same k) i)
op_named x os (Write k v) i = let r = write_named k v os none i in by_write r.0 r.1
op_named x os (Compare k v) i = by_compare v (any_in (compares_at k v) os (Compare k v) (cc (same k, same v)) i)

-- a key that is named is an operation's
read_key : (k : ℕ) (o : Operation) → reads_at k o ≡ true → key_of o ≡ k
read_key k (Read j) e = eq_of j k e
read_key k (Write j v) e = cc
read_key k (Compare j v) e = cc

compare_key : (k v : ℕ) (o : Operation) → compares_at k v o ≡ true → key_of o ≡ k
compare_key k v (Read j) e = cc
compare_key k v (Write j w) e = cc
compare_key k v (Compare j w) e = let h : eqb j k ≡ true = grind arith in eq_of j k h

write_key : (k : ℕ) (os : List Operation) (before : Option ℕ) (v : ℕ) → writes_over k os before ≡ some v →
    before ≡ none → (o : Operation) × In o os × (key_of o ≡ k)
write_key k [] before v e n = absurd (false≢true (cc))
write_key k (Read j ∷ os) before v e n = let r = write_key k os before v e n in (r.0, inr r.1, r.2)
write_key k (Compare j w ∷ os) before v e n = let r = write_key k os before v e n in (r.0, inr r.1, r.2)
write_key k (Write j w ∷ os) before v e n = go (λ h. write_key k os before v h n) (eqb j k) refl
  where
    go : (writes_over k os before ≡ some v → (o : Operation) × In o os × (key_of o ≡ k)) →
        (b : Bool) → eqb j k ≡ b → (o : Operation) × In o (Write j w ∷ os) × (key_of o ≡ k)
    go rest true h = (Write j w, inl refl, eq_of j k h)
    go rest false h = let r = rest (cc) in (r.0, inr r.1, r.2)

pub named_op : (x : Name) (os : List Operation) (k : ℕ) → Names (txn x os) k → (o : Operation) × In o os × (key_of o ≡ k)
named_op x os k (by_read e) = let r = any_out (reads_at k) os e in (r.0, r.1, read_key k r.0 r.2)
named_op x os k (by_compare v e) = let r = any_out (compares_at k v) os e in (r.0, r.1, compare_key k v r.0 r.2)
named_op x os k (by_write v e) = write_key k os none v e refl

pub named_groups : NamedGroups
named_groups S honest genuine x os g = (there, back)
  where
    there : names_group S.groups os g ≡ true → Touches (setting S honest genuine) (txn x os) g
    there e =
        let r = any_out (is_local S.groups g) os e in
        (key_of r.0, eq_of _ _ r.2, op_named x os r.0 r.1)

    back : Touches (setting S honest genuine) (txn x os) g → names_group S.groups os g ≡ true
    back (k, h, n) =
        let r = named_op x os k n in
        any_in (is_local S.groups g) os r.0 (same_of _ _ (ap (group_of S.groups) r.2 ∙ h)) r.1
