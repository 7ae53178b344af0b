use Rattle.std.proofs.Common.{sym, subst, arith}
use Rattle.octets.specs.Writers.{Wrote}
use Rattle.octets.proofs.Writes.{wrote_more}
use Rattle.bodies.proofs.operation.OperationWritten.write.Goals as goal

pub returns : goal.returns
returns c =
    let keyed = wrote_more _ _ _ _ _ (omega arith) c.put.ensures c.write.ensures in
    subst (Wrote c.args.writer.now c.write-2.new.writer) (sym c.parts-code.ensures)
    (wrote_more _ _ _ _ _ (omega arith) keyed c.write-2.ensures)
