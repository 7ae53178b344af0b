use Rattle.std.proofs.Common.{ap, subst, arith}
use Rattle.octets.specs.Writers.{Wrote}
use Rattle.octets.proofs.Writes.{wrote_more}
use Rattle.bodies.specs.Bodies.{contents_of}
use Rattle.bodies.proofs.body.writer.BodyWritten.write.Goals as goal

pub returns : goal.returns
returns c =
    let first = wrote_more _ _ _ _ _ (omega arith) c.write.ensures c.put.ensures in
    subst (Wrote c.args.writer.now c.write_all.new.writer) (ap (contents_of c.args.self.now.nonce) c.operations-operations.ensures.value)
    (wrote_more _ _ _ _ _ (omega arith) first c.write_all.ensures)
