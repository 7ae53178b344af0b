-- Proved in `Moves`.
use Rattle.protocol.proofs.Moves.{moves_can_be_made}
use Rattle.protocol.proofs.moves_can_be_made.Goals as goal

pub returns : goal.returns
returns g c = moves_can_be_made _
