use Rattle.std.proofs.Common.{◌∙◌, arith}
use Rattle.std.proofs.lemmas.List.{length-set}
use Rattle.digest.specs.Block.{extended}
use Rattle.digest.proofs.Schedules.{extended_more, schedule_all}
use Rattle.digest.proofs.block.schedule.Goals as goal

pub loop-t-init : goal.loop-t-init
unfolding extended
loop-t-init c = (omega arith, c.load-w.ensures)

pub loop-t-preserved : goal.loop-t-preserved
loop-t-preserved c = (
  length-set _ _ _ ∙ c.loop-t.invariant.0,
  extended_more _ c.loop-t.w c.loop-t.t _ (omega arith) (omega arith) c.loop-t.invariant.1
      (simp (c.small_sigma-near.ensures, c.small_sigma-far.ensures)),
)

pub returns : goal.returns
returns c =
    schedule_all c.loop-t.w c.args.block.now c.loop-t.t c.loop-t.invariant (omega arith) (omega arith)
