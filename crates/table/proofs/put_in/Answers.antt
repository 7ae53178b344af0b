use Rattle.std.proofs.Common.{refl}
use Rattle.table.proofs.Shifts.{put_in}
use Rattle.table.proofs.put_in.Goals as goal

pub returns : goal.returns
returns g c =
    put_in c.args.items.now c.args.at c.args.count c.args.item c.requires.0 c.requires.1 _ _ refl
    c.rotate_right.ensures.after
