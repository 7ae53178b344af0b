use Rattle.readings.proofs.Parsing.{parsed_is_said}
use Rattle.readings.proofs.messages_are_parsed.Goals as goal

pub returns : goal.returns
returns c = parsed_is_said
