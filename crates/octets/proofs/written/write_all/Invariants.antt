use Rattle.std.proofs.Common.{take}
use Rattle.std.specs.List.{flat_map}
use Rattle.octets.specs.Writers.{Wrote}
use Rattle.octets.proofs.written.write_all.Given as goal

-- the things before this one are written
abbrev pub invariant-loop-thing : goal.invariant-loop-thing
invariant-loop-thing g l = Wrote l.initial.writer l.writer (flat_map g.T.Written.text (take l.thing-index l.things))
