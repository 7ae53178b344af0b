use Rattle.table.proofs.Lookups.{lookup_absent, lookup_present}
use Rattle.table.proofs.get.Goals as goal

pub returns-in-Ok : goal.returns-in-Ok
returns-in-Ok g c =
    lookup_present g.K.Key.order c.args.rows.now c.args.key.now c.in-Ok.at c.index-rows-at.result
    c.in-Ok.ensures.place

pub returns-in-Err : goal.returns-in-Err
returns-in-Err g c =
    lookup_absent g.K.Key.order g.met.K.Key.total c.args.rows.now c.args.key.now c.in-Err.field-0
    c.requires c.in-Err.ensures.place
