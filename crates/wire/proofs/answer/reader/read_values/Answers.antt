use Rattle.std.proofs.Common.{rules}
use Rattle.octets.proofs.Begins.{uncons}
use Rattle.wire.proofs.AnswerParts.{first_values}
use Rattle.wire.proofs.answer.reader.read_values.Goals as goal

pub returns : goal.returns
returns c =
    first_values _ _ _ (uncons c.args.text.now (search rules)) c.if-count-gt-MOST_VALUES.false _ _ (λ b o p. p) _ c.read_many.ensures
