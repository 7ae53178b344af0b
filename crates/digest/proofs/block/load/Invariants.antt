use Rattle.digest.proofs.Schedules.{Loaded}
use Rattle.digest.proofs.block.load.Given as goal

abbrev pub invariant-loop-i : goal.invariant-loop-i
invariant-loop-i l = Loaded l.w l.block l.i
