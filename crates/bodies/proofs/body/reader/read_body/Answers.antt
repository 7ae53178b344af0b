use Rattle.bodies.specs.Bodies.{body_format, body_model}
use Rattle.envelope.proofs.Envelopes.{reads}
use Rattle.bodies.proofs.body.reader.read_body.Goals as goal

pub returns : goal.returns
returns c = reads body_format body_model _ _ _ c.read_message.ensures (λ rest o r. r)
