use Rattle.std.proofs.Common.{rules}
use Rattle.std.proofs.lemmas.Iterator.{YieldsList-from_slice}
use Rattle.std.proofs.lemmas.Iterator.Search.{all_from_yields_List}
use Rattle.std.proofs.lemmas.List.Folds.{list_all-map}
use borrow.Author.Tests.{tests}
use Rattle.votes.specs.Entries.{shown}
use Rattle.quorums.specs.Genuine.{stated}
use Rattle.quorums.proofs.genuine.are_genuine.Goals as goal

pub returns : goal.returns
returns g c =
    rw list_all-map (all_from_yields_List (λ e. g.K.MarkScheme.genuine c.args.scheme.now (stated c.args.name.now c.args.vote (shown e)) (shown e).mark)
    _ _ _ c.all.ensures.ran (YieldsList-from_slice c.args.entries.now (search rules)) (λ x b q k. search (rules, tests)))
