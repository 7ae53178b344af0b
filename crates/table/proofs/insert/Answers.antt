use Rattle.std.proofs.Common.{ℕ}
use Rattle.table.specs.declared.row.Row.{Row}
use Rattle.table.proofs.Insertion.{after_is, answer_is, rising_after, table_is}
use Rattle.table.proofs.insert.Goals as goal

pub returns : goal.returns
returns g c =
    let cmp = g.K.Key.order in
    let rows = c.args.rows.now in
    let table = c.first.result.now in
    let first = c.first.ensures in
    let filled : ℕ = c.args.filled in
    let at : ℕ = c.in-Err.at in
    let x : Row g.row.K.Denot g.row.V.Denot = record { key = c.args.key; value = c.args.value } in
    let found = c.in-Err.ensures in
    let free = c.if-filled-rows.false in
    let after = c.put_in.new.items in
    let put = c.put_in.ensures in
    let total = g.met.K.Key.total in
    record {
      answer = answer_is cmp rows table filled at x first found.place found.bound free;
      after = after_is cmp rows table filled at x first found.place found.bound free after put;
      table = table_is cmp rows table filled at x first found.place found.bound free after put;
      rises = rising_after cmp rows table filled at x first found.place found.bound free after put total c.requires;
    }
