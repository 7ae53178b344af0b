use Rattle.octets.proofs.Writes.{room_next, wrote_all, wrote_next}
use Rattle.octets.proofs.written.write_all.Goals as goal

pub write-requires : goal.write-requires
write-requires g c =
    room_next g.T.Written.text _ _ c.loop-thing-test.true _ c.thing-item.is _ _ c.requires c.loop-thing.invariant

pub loop-thing-preserved : goal.loop-thing-preserved
loop-thing-preserved g c =
    wrote_next g.T.Written.text _ _ c.loop-thing-test.true _ c.thing-item.is _ _ c.requires c.loop-thing.invariant _ c.write.ensures

pub returns : goal.returns
returns g c = wrote_all g.T.Written.text _ _ _ _ c.loop-thing-test.false c.loop-thing.invariant
