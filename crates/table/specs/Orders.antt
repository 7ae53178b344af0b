-- What makes an order one of keys, and the orders of the kinds of keys.
use Rattle.std.specs.Prelude.{◌≡◌, ℕ}
use Rattle.std.specs.declared.cmp.Ordering.TheVariants.{Equal}
use Rattle.std.specs.declared.cmp.Ordering.{Ordering}
use Rattle.std.specs.Cmp.{IsTotalOrder}
use Rattle.std.specs.Cmp.Lexicographic.{slice_cmp}
use Rattle.std.specs.Ordering.{nat_cmp}
use Rattle.envelope.specs.declared.name.Name.{Name}

-- the laws of an order of keys
pub record Laws {K : Type 0} (cmp : K → K → Ordering) : Type 0 where
  pub total : IsTotalOrder cmp
  -- only a key itself is equal to it
  pub same : (x y : K) → cmp x y ≡ Equal → x ≡ y

-- numbers, by their size
abbrev pub by_number : ℕ → ℕ → Ordering
by_number x y = nat_cmp x y

-- names, by the first byte in which they differ
abbrev pub by_bytes : Name → Name → Ordering
by_bytes x y = slice_cmp nat_cmp x.bytes y.bytes
