-- Proved in `Passing`.
use Rattle.protocol.proofs.Passing.{posted_is_passed}
use Rattle.protocol.proofs.posted_is_passed.Goals as goal

pub returns : goal.returns
returns g c = posted_is_passed _
