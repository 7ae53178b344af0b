use Rattle.std.proofs.Common.{◌≡◌, ℕ, ◌+◌, ◌-◌, ◌/◌, ◌<◌, ◌≤◌, length, get_or, Less, subst, arith}
use Rattle.table.specs.declared.row.Row.{Row}
use Rattle.table.proofs.Places.{position_between, position_found}
use Rattle.table.proofs.find.Goals as goal

pub returns-in-Equal : goal.returns-in-Equal
returns-in-Equal g c =
    let rows = c.args.rows.now in
    let middle : ℕ = c.loop-low.low + (c.loop-low.high - c.loop-low.low) / 2 in
    let within : middle < length rows = omega arith in
    let row = c.index-rows-middle.result in
    let same = c.in-Equal.ensures in
    let key = c.args.key.now in
    record {
      place = position_found g.K.Key.order g.met.K.Key.total rows key middle row c.requires within same;
      bound = within;
    }

pub returns : goal.returns
returns g c =
    let rows = c.args.rows.now in
    let cmp = g.K.Key.order in
    let key = c.args.key.now in
    let low : ℕ = c.loop-low.low in
    let inv = c.loop-low.invariant in
    let within : low ≤ length rows = omega arith in
    let met : c.loop-low.high ≡ low = omega arith in
    let Under : ℕ → Type 0 = λ i.
    (d : Row g.row.K.Denot g.row.V.Denot) → i < length rows → cmp key (get_or rows i d).key ≡ Less in
    let under = subst Under met inv.3 in
    record {
      place = position_between cmp g.met.K.Key.total rows key low c.requires within inv.2 under;
      bound = within;
    }
