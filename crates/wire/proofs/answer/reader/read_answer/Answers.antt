use Rattle.std.proofs.Common.{rules}
use Rattle.envelope.proofs.Envelopes.{reads}
use Rattle.wire.specs.Answers.{answer_format, answer_model}
use Rattle.wire.proofs.answer.reader.read_answer.Goals as goal

pub returns : goal.returns
returns c = reads (answer_format c.args.width) answer_model _ _ _ c.read_message.ensures (λ rest o r. (r.0, search rules, r.2))
