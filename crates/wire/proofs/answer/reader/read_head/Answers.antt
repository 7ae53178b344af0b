use Rattle.std.proofs.Common.{◌∙◌, rules}
use Rattle.votes.proofs.Tables.{found_ok}
use Rattle.wire.proofs.AnswerParts.{five_off, head_no_name, head_no_state, head_no_vote, head_short, the_head}
use Rattle.wire.proofs.answer.reader.read_head.Goals as goal

pub returns-in_err-name : goal.returns-in_err-name
returns-in_err-name c = rw c.from_residual.ensures (head_no_name _ c.in_err-name.ensures)

pub returns-in_default : goal.returns-in_default
returns-in_default c =
    let n = c.in_ok-name.ensures in
    head_short _ c.in_ok-name.name n.0 _ n.1 (search rules)

pub returns-in_err-ok : goal.returns-in_err-ok
returns-in_err-ok c =
    let n = c.in_ok-name.ensures in
    let t = five_off c.in_ok-name.rest.now (search rules) in
    rw c.from_residual-in_err-ok.ensures
    (head_no_vote _ c.in_ok-name.name n.0 _ n.1 _ _ _ _ _ _ t (c.in_err-ok.ensures.value ∙ found_ok _ _ c.try_from.ensures))

pub returns-in_err-ok-2 : goal.returns-in_err-ok-2
returns-in_err-ok-2 c =
    let n = c.in_ok-name.ensures in
    let t = five_off c.in_ok-name.rest.now (search rules) in
    rw c.from_residual-in_err-ok-2.ensures
    (head_no_state _ c.in_ok-name.name n.0 _ n.1 _ _ _ _ _ _ t (c.in_err-ok-2.ensures.value ∙ found_ok _ _ c.try_from-2.ensures))

pub returns : goal.returns
returns c =
    let n = c.in_ok-name.ensures in
    let t = five_off c.in_ok-name.rest.now (search rules) in
    the_head _ c.in_ok-name.name n.0 _ n.1 _ _ _ _ _ _ t _ _ (c.in_ok-ok.ensures.value ∙ found_ok _ _ c.try_from.ensures)
    (c.in_ok-ok-2.ensures.value ∙ found_ok _ _ c.try_from-2.ensures) (search rules) (search rules) (search rules)
