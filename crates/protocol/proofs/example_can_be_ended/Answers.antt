-- Worked out in `Example`.
use Rattle.protocol.proofs.Example.{example_ends}
use Rattle.protocol.proofs.example_can_be_ended.Goals as goal

pub returns : goal.returns
returns c = example_ends
