use Rattle.readings.proofs.KindBytes.{kinds_apart}
use Rattle.readings.proofs.kinds_are_apart.Goals as goal

pub returns : goal.returns
returns c = kinds_apart
