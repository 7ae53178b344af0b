use Rattle.digest.proofs.Schedules.{Expanded}
use Rattle.digest.proofs.block.schedule.Given as goal

abbrev pub invariant-loop-t : goal.invariant-loop-t
invariant-loop-t l = Expanded l.w l.block l.t
