use Rattle.std.proofs.Common.{◌∷◌, ap, subst, arith}
use Rattle.octets.specs.Writers.{Wrote}
use Rattle.octets.proofs.Writes.{wrote_more}
use Rattle.votes.proofs.writing.EntryWritten.write.Goals as goal

pub returns : goal.returns
returns c =
    let e = c.args.self.now in
    subst (Wrote c.args.writer.now c.put-2.new.self) (ap (λ mark. e.group ∷ e.replica ∷ mark) c.as_slice.ensures.value)
    (wrote_more _ _ _ _ _ (omega arith) c.put.ensures c.put-2.ensures)
