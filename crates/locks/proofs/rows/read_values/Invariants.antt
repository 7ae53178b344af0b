use Rattle.std.proofs.Common.{◌≡◌, ◌≤◌, length, take}
use Rattle.locks.specs.LocalRows.{read_values}
use Rattle.lists.specs.Lists.{listed}
use Rattle.locks.proofs.rows.read_values.Given as goal

-- the reads so far are listed
abbrev pub invariant-loop-operation : goal.invariant-loop-operation
invariant-loop-operation l =
    (length (listed l.values) ≤ l.operation-index) ×
    (listed l.values ≡ read_values l.partition.groups l.partition.group l.rows (take l.operation-index l.operations))
