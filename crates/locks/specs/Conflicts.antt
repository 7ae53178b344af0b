-- When two transactions conflict in a group.
use Rattle.std.specs.Prelude.{ℕ, Bool, ◌&&◌, ◌||◌, List, ◌==◌}
use Rattle.std.specs.List.{list_any}
use Rattle.bodies.specs.Operations.{is_write, key_of}
use Rattle.bodies.specs.declared.operation.Operation.{Operation}
use Rattle.locks.specs.Groups.{is_local}

-- whether two operations are at one key of the group, and at least one of them writes it
abbrev pub clash : ℕ → ℕ → Operation → Operation → Bool
clash groups group a b = is_local groups group a && (key_of a == key_of b && (is_write a || is_write b))

-- whether two transactions conflict: an operation of the one and an operation of the other clash
abbrev pub conflicts : ℕ → ℕ → List Operation → List Operation → Bool
conflicts groups group left right = list_any (λ o. list_any (clash groups group o) right) left
