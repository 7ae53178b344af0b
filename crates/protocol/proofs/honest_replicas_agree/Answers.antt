-- Proved in `Agreement`.
use Rattle.protocol.proofs.Agreement.{agreement}
use Rattle.protocol.proofs.honest_replicas_agree.Goals as goal

pub returns : goal.returns
returns g c = agreement _
