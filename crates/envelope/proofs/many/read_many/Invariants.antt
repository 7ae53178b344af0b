use Rattle.std.proofs.Common.{◌≡◌, length}
use Rattle.std.specs.Fn.{FnReturnsAt}
use Rattle.std.specs.List.{FoldsTo}
use Rattle.lists.specs.Lists.{listed}
use Rattle.envelope.specs.Many.{Leaves}
use Rattle.envelope.proofs.many.read_many.Given as goal

-- as many things as the turns are read, and the rest is what they left
abbrev pub invariant-loop : goal.invariant-loop
invariant-loop g l =
    (length (listed l.things) ≡ l.counter)
    × FoldsTo (Leaves (FnReturnsAt g.F.Fn l.read_one)) l.text (listed l.things) l.rest
