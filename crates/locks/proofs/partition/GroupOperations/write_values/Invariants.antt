use Rattle.std.proofs.Common.{◌≡◌, take}
use Rattle.locks.specs.LocalRows.{written_by_all}
use Rattle.table.specs.Tables.{with_rows}
use Rattle.locks.proofs.partition.GroupOperations.write_values.Given as goal

-- the writes so far are done
abbrev pub invariant-loop-operation : goal.invariant-loop-operation
invariant-loop-operation l =
    l.rows
    ≡ with_rows l.initial.rows
    (written_by_all l.self.partition.groups l.self.partition.group (take l.operation-index l.self.operations.now) l.initial.rows.rows)
