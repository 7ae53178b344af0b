use Rattle.std.proofs.Common.{sym, subst, arith}
use Rattle.octets.specs.Writers.{Room, Wrote}
use Rattle.octets.proofs.Writes.{room_left, wrote_more}
use Rattle.wire.specs.Answers.{answer_model}
use Rattle.wire.proofs.AnswerWrites.{pieces_written}
use Rattle.wire.proofs.answer.writer.AnswerWritten.write.Goals as goal

pub write-requires-2 : goal.write-requires-2
write-requires-2 c =
    let same = pieces_written (answer_model c.args.self.now) _ _ _ _ _ _ c.from-vote.ensures c.from-state.ensures
    c.from-ground.ensures c.as_slice.ensures.value c.as_slice-reads.ensures.items c.blocker.ensures in
    let two = wrote_more _ _ _ _ _ (omega arith) c.write.ensures c.put.ensures in
    let three = wrote_more _ _ _ _ _ (omega arith) two c.put-2.ensures in
    let four = wrote_more _ _ _ _ _ (omega arith) three c.put-3.ensures in
    let five = wrote_more _ _ _ _ _ (omega arith) four c.write_all.ensures in
    room_left _ _ _ five _ (subst (Room c.args.writer.now) (sym same) c.requires)

pub returns : goal.returns
returns c =
    let same = pieces_written (answer_model c.args.self.now) _ _ _ _ _ _ c.from-vote.ensures c.from-state.ensures
    c.from-ground.ensures c.as_slice.ensures.value c.as_slice-reads.ensures.items c.blocker.ensures in
    let two = wrote_more _ _ _ _ _ (omega arith) c.write.ensures c.put.ensures in
    let three = wrote_more _ _ _ _ _ (omega arith) two c.put-2.ensures in
    let four = wrote_more _ _ _ _ _ (omega arith) three c.put-3.ensures in
    let five = wrote_more _ _ _ _ _ (omega arith) four c.write_all.ensures in
    subst (Wrote c.args.writer.now c.write-2.new.writer) same (wrote_more _ _ _ _ _ (omega arith) five c.write-2.ensures)
