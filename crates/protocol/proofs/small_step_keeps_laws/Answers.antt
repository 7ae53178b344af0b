-- Proved in `SmallStep`.
use Rattle.protocol.proofs.SmallStep.{small_step_keeps_laws}
use Rattle.protocol.proofs.small_step_keeps_laws.Goals as goal

pub returns : goal.returns
returns c = small_step_keeps_laws
