use Rattle.std.proofs.Common.{◌≡◌, ◌*◌, ◌≤◌, length, take}
use Rattle.std.specs.List.{flat_map, AllByRecursion}
use Rattle.octets.proofs.written.size_of_all.Given as goal

-- the things before this one are measured, and fit
abbrev pub invariant-loop-thing : goal.invariant-loop-thing
invariant-loop-thing g l =
    (l.size ≡ length (flat_map g.T.Written.text (take l.thing-index l.things)))
    × (l.size ≤ l.thing-index * g.T.Written.most)
    × AllByRecursion g.T.Written.fits (take l.thing-index l.things)
