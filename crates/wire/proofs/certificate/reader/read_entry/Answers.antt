use Rattle.std.proofs.Common.{rules}
use Rattle.wire.proofs.OneEntry.{no_entry, the_entry, too_wide}
use Rattle.wire.proofs.certificate.reader.read_entry.Goals as goal

pub returns-in_err-mark : goal.returns-in_err-mark
returns-in_err-mark c = rw c.from_residual.ensures (no_entry _ _ (search rules) c.in_err-mark.ensures)

pub returns-in_err-mark-2 : goal.returns-in_err-mark-2
returns-in_err-mark-2 c =
    rw c.from_residual-in_err-mark-2.ensures
    (too_wide _ _ _ c.in_ok-mark.ensures.0 c.in_err-mark-2.ensures)

pub returns : goal.returns
returns c =
    let split = c.in_ok-mark.ensures in
    let made = c.in_ok-mark-2.ensures in
    the_entry c.args.width c.args.text.now (search rules) c.type_inv.text _ _ _ split.0 split.1
    made.0 made.1
