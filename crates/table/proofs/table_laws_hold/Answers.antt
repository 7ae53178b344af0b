use Rattle.table.proofs.AllLaws.{table_laws}
use Rattle.table.proofs.table_laws_hold.Goals as goal

pub returns : goal.returns
returns g c = table_laws g.K.Key.order g.met.K.Key.total
