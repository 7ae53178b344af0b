-- Proved in `Folds`.
use Rattle.protocol.proofs.Folds.{folds_are_lawful}
use Rattle.protocol.proofs.folds_are_lawful.Goals as goal

pub returns : goal.returns
returns g c = folds_are_lawful _ _
