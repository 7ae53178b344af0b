use Rattle.bodies.specs.Bodies.{body_format, body_model}
use Rattle.bodies.proofs.BodyParts.{one_writing}
use Rattle.envelope.proofs.Envelopes.{round_trip}
use Rattle.bodies.proofs.body.reader.body_has_one_writing.Goals as goal

pub returns : goal.returns
returns c = record { one = one_writing; back = round_trip body_format body_model one_writing }
