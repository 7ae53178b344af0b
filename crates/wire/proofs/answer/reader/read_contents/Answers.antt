use Rattle.wire.proofs.AnswerParts.{no_ground, no_head, no_values, short_mark, the_answer, wide_mark}
use Rattle.wire.proofs.answer.reader.read_contents.Goals as goal

pub returns-in_err-head : goal.returns-in_err-head
returns-in_err-head c = rw c.from_residual.ensures (no_head _ _ c.in_err-head.ensures)

pub returns-in_err-mark : goal.returns-in_err-mark
returns-in_err-mark c =
    let h = c.in_ok-head.ensures in
    rw c.from_residual-in_err-mark.ensures
    (short_mark _ _ c.in_ok-head.head h.0 _ h.1 c.in_err-mark.ensures)

pub returns-in_err-mark-2 : goal.returns-in_err-mark-2
returns-in_err-mark-2 c =
    let h = c.in_ok-head.ensures in
    let m = c.in_ok-mark.ensures in
    rw c.from_residual-in_err-mark-2.ensures
    (wide_mark _ _ c.in_ok-head.head h.0 _ h.1 _ m.0 _ m.1 c.in_err-mark-2.ensures)

pub returns-in_err-reads : goal.returns-in_err-reads
returns-in_err-reads c =
    let h = c.in_ok-head.ensures in
    let m = c.in_ok-mark.ensures in
    rw c.from_residual-in_err-reads.ensures
    (no_values _ _ c.in_ok-head.head h.0 _ h.1 _ m.0 _ m.1 c.in_err-reads.ensures)

pub returns-in_err-ground : goal.returns-in_err-ground
returns-in_err-ground c =
    let h = c.in_ok-head.ensures in
    let m = c.in_ok-mark.ensures in
    let v = c.in_ok-reads.ensures in
    rw c.from_residual-in_err-ground.ensures
    (no_ground _ _ c.in_ok-head.head h.0 _ h.1 _ m.0 _ m.1 _ v.0 _ v.1
    c.in_err-ground.ensures.value)

pub returns : goal.returns
returns c =
    let h = c.in_ok-head.ensures in
    let m = c.in_ok-mark.ensures in
    let n = c.in_ok-mark-2.ensures in
    let v = c.in_ok-reads.ensures in
    let g = c.in_ok-ground.ensures in
    the_answer _ _ c.in_ok-head.head h.0 _ h.1 _ m.0 _ m.1 _ v.0 _ v.1 c.in_ok-ground.ground
    g.value g.fits n.1 _ n.0
