use Rattle.replica.specs.Steps.{stepped}
use Rattle.replica.proofs.state.Replica.step.Goals as goal

pub returns : goal.returns
unfolding stepped
returns g c = record { state = c.act.ensures.after.state; outcome = c.act.ensures.outcome; fixed = c.act.ensures.after.fixed }
