use Rattle.std.proofs.Common.{length}
use Rattle.bodies.proofs.operations.list.+writes_apart.Given as goal

abbrev pub decreases-writes_apart : goal.decreases-writes_apart
decreases-writes_apart l = length l.operations.now
