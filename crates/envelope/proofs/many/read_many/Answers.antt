use Rattle.std.proofs.Common.{[], ◌∷◌, refl, arith, length-append}
use Rattle.std.specs.Fn.{FnReturnsAt}
use Rattle.std.proofs.lemmas.Fn.{FoldsTo-push}
use Rattle.lists.specs.Lists.{listed}
use Rattle.envelope.specs.Many.{Leaves}
use Rattle.envelope.proofs.many.read_many.Goals as goal

pub loop-preserved : goal.loop-preserved
loop-preserved g c =
    let thing = c.in_ok-thing.thing in
    let long = length-append (listed c.loop.things) (thing ∷ []) in
    let i = c.loop.invariant in
    rw c.push.ensures
    (omega (arith, long, i.0), FoldsTo-push (Leaves (FnReturnsAt g.F.Fn c.args.read_one)) _ _ _ thing _ i.1 (c.in_ok-thing.after, record { shown = c.loop.rest; shows = refl; says = record { met = c.in_ok-thing.ensures } }, refl))
