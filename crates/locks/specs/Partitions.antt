-- One group of several.
use Rattle.std.specs.Prelude.{◌≡◌, ℕ, false, ◌&&◌, Some, None, Option, nat_le, nat_lt}
use Rattle.locks.specs.declared.partition.Partition.{Partition}

-- the group of this number, of so many; none where there is no such group, or there are more than eight
abbrev pub MadePartition : ℕ → ℕ → Option Partition → Type 0
MadePartition groups group (Some p) = (p.groups ≡ groups) × (p.group ≡ group)
MadePartition groups group None = (nat_lt group groups && nat_le groups 8) ≡ false
