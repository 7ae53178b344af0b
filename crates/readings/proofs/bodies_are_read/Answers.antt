use Rattle.readings.proofs.BodyReading.{body_reading}
use Rattle.readings.proofs.bodies_are_read.Goals as goal

pub returns : goal.returns
returns c = body_reading
