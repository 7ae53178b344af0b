use Rattle.std.proofs.Common.{◌≡◌}
use Rattle.locks.specs.Groups.{bits_below, names_group}
use Rattle.locks.proofs.partition.GroupOperations.group_set.Given as goal

-- the bits of the groups so far
abbrev pub invariant-loop-group : goal.invariant-loop-group
invariant-loop-group l = l.bits ≡ bits_below l.group (names_group l.self.partition.groups l.self.operations.now)
