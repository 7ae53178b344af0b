use Rattle.std.proofs.Common.{◌≡◌, true, take}
use Rattle.locks.specs.LocalRows.{written_by_all}
use Rattle.table.specs.Orders.{by_number}
use Rattle.table.specs.Rows.{rising}
use Rattle.locks.proofs.rows.write_values.Given as goal

-- the writes so far are done, and the keys rise
abbrev pub invariant-loop-operation : goal.invariant-loop-operation
invariant-loop-operation l =
    (rising by_number l.rows ≡ true) ×
    (l.rows ≡ written_by_all l.partition.groups l.partition.group (take l.operation-index l.operations) l.initial.rows)
