-- Proved in `Ending`.
use Rattle.protocol.proofs.Ending.{ending}
use Rattle.protocol.proofs.pending_ends.Goals as goal

pub returns : goal.returns
returns g c = ending _
