-- Proved in `Order`.
use Rattle.protocol.proofs.Order.{ordered}
use Rattle.protocol.proofs.commits_have_one_order.Goals as goal

pub returns : goal.returns
returns g c = ordered _
