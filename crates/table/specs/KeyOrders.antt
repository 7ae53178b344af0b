-- The orders of numbers and of names are total, and tell any two apart.
use Rattle.std.specs.Prelude.{◌≡◌, ℕ, List, [], ◌∷◌, refl}
use Rattle.std.specs.declared.cmp.Ordering.TheVariants.{Less, Equal, Greater}
use Rattle.std.specs.declared.cmp.Ordering.{Ordering}
use Rattle.std.proofs.Common.{sym, ap, ap₂, ◌∙◌, true≢false, eqb-true}
use Rattle.std.specs.Cmp.{nat_cmp_total, on_total, unsigned_tied}
use Rattle.std.specs.Cmp.Lexicographic.{lists_total, slice_cmp}
use Rattle.std.specs.Ordering.{is_eq, is_gt, is_lt, ordering_reverse, ordering_then, nat_cmp}
use Rattle.envelope.specs.declared.name.Name.{Name}
use Rattle.table.specs.Orders.{Laws, by_bytes, by_number}

module _ {K : Type 0} {cmp : K → K → Ordering} where
  -- the other way round the answer is reversed
  pub flip : Laws cmp → (x y : K) → cmp x y ≡ ordering_reverse (cmp y x)
  flip laws = laws.total.antisymm

  -- what is below a lower key is below
  pub trans : Laws cmp → (x y z : K) → cmp x y ≡ Less → cmp y z ≡ Less → cmp x z ≡ Less
  trans laws = laws.total.trans

  -- no more is needed for the laws, where only a key itself is equal to it
  pub laws_from : ((x y : K) → cmp x y ≡ Equal → x ≡ y) → ((x y : K) → cmp x y ≡ ordering_reverse (cmp y x))
      → ((x y z : K) → cmp x y ≡ Less → cmp y z ≡ Less → cmp x z ≡ Less) → Laws cmp
  laws_from same flips passes = record {
    total = record { antisymm = flips; trans = passes; congr = λ x y z e. ap (λ k. cmp k z) (same x y e) };
    same = same;
  }

pub same_number : (x y : ℕ) → nat_cmp x y ≡ Equal → x ≡ y
same_number x y e = eqb-true x y (sym (unsigned_tied x y) ∙ ap is_eq e)

pub numbers : Laws by_number
numbers = record { total = nat_cmp_total; same = same_number }

same_bytes : (xs ys : List ℕ) → slice_cmp nat_cmp xs ys ≡ Equal → xs ≡ ys
same_bytes [] [] e = refl
same_bytes [] (y ∷ ys) e = absurd (true≢false (ap is_lt e))
same_bytes (x ∷ xs) [] e = absurd (true≢false (ap is_gt e))
same_bytes (x ∷ xs) (y ∷ ys) e = at (nat_cmp x y) refl (same_bytes xs ys) e where
  at : (o : Ordering) → nat_cmp x y ≡ o → (slice_cmp nat_cmp xs ys ≡ Equal → xs ≡ ys)
      → ordering_then o (slice_cmp nat_cmp xs ys) ≡ Equal → x ∷ xs ≡ y ∷ ys
  at Less is next h = absurd (true≢false (ap is_lt h))
  at Equal is next h = ap₂ (λ z zs. z ∷ zs) (same_number x y is) (next h)
  at Greater is next h = absurd (true≢false (ap is_gt h))

pub same_name : (x y : Name) → slice_cmp nat_cmp x.bytes y.bytes ≡ Equal → x ≡ y
same_name x y e = ap (λ b. record { bytes = b }) (same_bytes x.bytes y.bytes e)

pub names : Laws by_bytes
names = record { total = on_total (λ n. n.bytes) (lists_total nat_cmp_total); same = same_name }
