use Rattle.std.proofs.Common.{take, drop, sym, ◌∙◌, arith, take-append-drop, rules}
use Rattle.std.proofs.lemmas.List.{length-take-le}
use Rattle.votes.proofs.GroundParts.{no_blocker, the_blocker}
use Rattle.wire.proofs.answer.reader.read_blocker.Goals as goal

pub returns-in_err-name-clause-value : goal.returns-in_err-name-clause-value
returns-in_err-name-clause-value c =
    let end = c.args.end.now in
    c.from_residual.ensures
    ∙ no_blocker _ (λ l. c.in_err-name.ensures (record { bytes = take 32 end }) (drop 32 end) (length-take-le 32 end (omega arith)) (sym (take-append-drop 32 end)))

pub returns-clause-value : goal.returns-clause-value
returns-clause-value c =
    let n = c.in_ok-name.ensures in
    the_blocker c.args.end.now _ _ n.0 n.1 (search rules)
