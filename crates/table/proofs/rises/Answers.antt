use Rattle.std.proofs.Common.{rules}
use Rattle.std.specs.Ordering.{is_lt}
use Rattle.std.proofs.lemmas.Fn.{always_returns_same}
use Rattle.table.proofs.RisingTurns.{rises}
use Rattle.table.proofs.rises.Goals as goal

pub returns : goal.returns
returns g c =
    let cmp = g.K.Key.order in
    rises cmp g.met.K.Key.total c.args.rows.now c.is_sorted_by.result
    (c.is_sorted_by.ensures.cases (λ x y. is_lt (cmp x.key y.key))
    (always_returns_same _ _ _ (λ a r f' called. search rules)))
