use Rattle.std.proofs.Common.{sym, ◌∙◌}
use Rattle.locks.proofs.Bits.{bit_fits, bit_left, bit_set}
use Rattle.locks.proofs.partition.GroupOperations.group_set.Goals as goal
use Rattle.locks.proofs.partition.GroupOperations.group_set.Goals.{then-names_group, else-names_group}

pub overflow_add-bits : goal.overflow_add-bits
overflow_add-bits c = record { fits = bit_fits _ _ c.loop-group-test.true _ c.loop-group.invariant }

pub loop-group-preserved : goal.loop-group-preserved
loop-group-preserved c =
    elim c.if-names_group.branch [
      | then-names_group w ↦
          w.bits-is ∙ bit_set _ _ c.loop-group-test.true _ c.loop-group.invariant (sym w.if-names_group.ensures)
      | else-names_group w ↦
          w.bits-is ∙ bit_left _ _ c.loop-group-test.true _ c.loop-group.invariant (sym w.if-names_group.ensures)
    ]
