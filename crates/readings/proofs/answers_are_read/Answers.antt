use Rattle.readings.proofs.AnswerReading.{answer_reading}
use Rattle.readings.proofs.answers_are_read.Goals as goal

pub returns : goal.returns
returns c = answer_reading
