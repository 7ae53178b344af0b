-- Proved in `SmallTally`.
use Rattle.protocol.proofs.SmallTally.{small_tally_keeps_laws}
use Rattle.protocol.proofs.small_tally_keeps_laws.Goals as goal

pub returns : goal.returns
returns c = small_tally_keeps_laws
