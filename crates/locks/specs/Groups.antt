-- The groups of keys, and the groups that a transaction names.
use Rattle.std.specs.Prelude.{ℕ, zero, suc, ◌+◌, ◌%◌, ◌^◌, Bool, cond, List, ◌==◌}
use Rattle.std.specs.List.{list_any}
use Rattle.bodies.specs.Operations.{key_of}
use Rattle.bodies.specs.declared.operation.Operation.{Operation}

-- the group of a key, of so many groups
abbrev pub group_of : ℕ → ℕ → ℕ
group_of groups key = key % groups

-- whether an operation is at a key of the group
abbrev pub is_local : ℕ → ℕ → Operation → Bool
is_local groups group o = group_of groups (key_of o) == group

-- whether a transaction names the group: one of its operations is at a key of the group
abbrev pub names_group : ℕ → List Operation → ℕ → Bool
names_group groups os group = list_any (is_local groups group) os

-- the number whose bit i is set for each i below n that passes the test
abbrev pub bits_below : ℕ → (ℕ → Bool) → ℕ
bits_below zero test = 0
bits_below (suc n) test = bits_below n test + cond (test n) (2 ^ n) 0

-- the byte whose bit g is set for each group g that a transaction names
abbrev pub groups_byte : ℕ → List Operation → ℕ
groups_byte groups os = bits_below 8 (names_group groups os)
