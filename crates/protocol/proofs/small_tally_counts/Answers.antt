-- It is computed.
use Rattle.std.proofs.Common.{refl}
use Rattle.protocol.proofs.small_tally_counts.Goals as goal

pub returns : goal.returns
returns c = record { says = refl; commits = refl; aborts = refl; waits = refl }
