-- What a transaction asks of a group's rows, reads in them and writes into them.
use Rattle.std.specs.Prelude.{ℕ, Bool, true, false, cond, not, ◌&&◌, List, map, is_some, Some, None, Option, ◌==◌}
use Rattle.std.specs.List.{filter, fold, list_any}
use Rattle.std.specs.Option.{unwrap_or}
use Rattle.bodies.specs.Operations.{is_read, key_of}
use Rattle.bodies.specs.declared.operation.Operation.{Operation}
use Rattle.bodies.specs.declared.operation.Operation.TheVariants.{Read, Write, Compare}
use Rattle.table.specs.Orders.{by_number}
use Rattle.table.specs.Rows.{changed, lookup}
use Rattle.table.specs.declared.row.Row.{Row}
use Rattle.locks.specs.Groups.{is_local}

-- the rows of a group
abbrev pub Rows : Type 0
Rows = List (Row ℕ ℕ)

-- the value of a key, if it has a row
abbrev pub value_at : Rows → ℕ → Option ℕ
value_at rows key = lookup by_number rows key

-- whether a key of the group has no row
abbrev pub lacks_row : ℕ → ℕ → Rows → List Operation → Bool
lacks_row groups group rows os = list_any (λ o. is_local groups group o && not (is_some (value_at rows (key_of o)))) os

-- whether an operation compares with another value than this
abbrev pub differs : Option ℕ → Operation → Bool
differs row (Read k) = false
differs row (Write k v) = false
differs None (Compare k v) = true
differs (Some value) (Compare k v) = not (value == v)

-- whether a compare at a key of the group is not equal
abbrev pub is_unequal : ℕ → ℕ → Rows → List Operation → Bool
is_unequal groups group rows os = list_any (λ o. is_local groups group o && differs (value_at rows (key_of o)) o) os

-- the values of the reads at keys of the group, in the order of the operations; a key without a row counts as 0
abbrev pub read_values : ℕ → ℕ → Rows → List Operation → List ℕ
read_values groups group rows os =
    map (λ o. unwrap_or (value_at rows (key_of o)) 0) (filter (λ o. is_local groups group o && is_read o) os)

-- the rows after a write of the operation, if it is one at a key of the group
abbrev pub written_by : ℕ → ℕ → Operation → Rows → Rows
written_by groups group (Read k) rows = rows
written_by groups group (Write k v) rows = cond (is_local groups group (Write k v)) (changed by_number rows k v) rows
written_by groups group (Compare k v) rows = rows

-- the rows after the writes of all operations at keys of the group
abbrev pub written_by_all : ℕ → ℕ → List Operation → Rows → Rows
written_by_all groups group os rows = fold (λ rows o. written_by groups group o rows) rows os
