use Rattle.std.proofs.Common.{arith}
use Rattle.digest.proofs.Schedules.{words_all, words_more}
use Rattle.digest.proofs.block.load.Goals as goal

pub loop-i-preserved : goal.loop-i-preserved
loop-i-preserved c =
    words_more c.loop-i.w c.args.block.now c.as_chunks.result.0.now _ c.loop-i.i c.from_be_bytes.result
    c.as_chunks.ensures.front (omega arith) (omega arith) c.loop-i.invariant c.from_be_bytes.ensures

pub returns : goal.returns
returns c = words_all c.loop-i.w c.args.block.now c.loop-i.i c.loop-i.invariant (omega arith)
