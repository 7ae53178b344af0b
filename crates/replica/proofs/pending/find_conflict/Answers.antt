use Rattle.std.proofs.Common.{ap, ◌∙◌, rules, tests}
use Rattle.std.specs.Option.{option_map}
use Rattle.std.proofs.lemmas.Iterator.{YieldsList-from_slice}
use Rattle.std.proofs.lemmas.Iterator.Search.{find_from_yields_List}
use Rattle.replica.specs.Models.{is_conflicting}
use Rattle.replica.specs.Transactions.{transaction}
use Rattle.replica.proofs.Searches.{find_map}
use Rattle.replica.proofs.pending.find_conflict.Goals as goal

pub returns : goal.returns
returns c =
    let test = is_conflicting c.args.partition.now.groups c.args.partition.now.group c.args.operations.now in
    ap (option_map transaction)
    (c.copied.ensures
    ∙ find_from_yields_List (λ place. test (transaction place)) _ _ c.find.result c.find.ensures.ran
    (YieldsList-from_slice _ c.iter.ensures.rest) (λ x b q k. search (rules, tests)))
    ∙ find_map test transaction c.args.places.now
