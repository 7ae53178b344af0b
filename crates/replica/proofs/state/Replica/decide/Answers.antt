use Rattle.std.proofs.Common.{sym, ap, ◌∙◌}
use Rattle.replica.specs.Steps.{objection}
use Rattle.replica.specs.Transactions.{transaction}
use Rattle.replica.specs.Views.{config, view}
use Rattle.replica.proofs.Objections.{place_free}
use Rattle.replica.proofs.state.Replica.decide.Goals as goal

pub admit-requires : goal.admit-requires
admit-requires c = record {
  space = c.requires;
  free =
      place_free (config c.args.self.now) (view c.args.self.now) (transaction c.args.place).operations
      (ap (objection (config c.args.self.now) (view c.args.self.now)) (sym c.operations.ensures.value) ∙ sym c.in-None.ensures);
}
