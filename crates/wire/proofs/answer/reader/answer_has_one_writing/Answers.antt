use Rattle.envelope.proofs.Envelopes.{round_trip}
use Rattle.wire.specs.Answers.{answer_format, answer_model}
use Rattle.wire.proofs.AnswerParts.{one_writing}
use Rattle.wire.proofs.answer.reader.answer_has_one_writing.Goals as goal

pub returns : goal.returns
returns c = record { one = one_writing; back = λ width. round_trip (answer_format width) answer_model (one_writing width) }
