use Rattle.std.proofs.Common.{arith}
use Rattle.quorums.proofs.Shown.{of_each, of_one}
use Rattle.quorums.proofs.shape.are_spread.Goals as goal

pub returns-then-are_named : goal.returns-then-are_named
returns-then-are_named c = rw (c.in-Commit.is, of_each) (grind arith)

pub returns-else-are_named : goal.returns-else-are_named
returns-else-are_named c = rw (c.in-Commit.is, of_each) (grind arith)

pub returns-then-entries-faults : goal.returns-then-entries-faults
returns-then-entries-faults c = rw (c.in-Abort.is, of_one) (grind arith)
