use Rattle.std.proofs.Common.{◌≡◌, ◌-◌, ◌<◌, ◌≤◌, length, get_or, Less, Greater}
use Rattle.table.specs.declared.row.Row.{Row}
use Rattle.table.proofs.find.Given as goal

-- the key is above the row before `low`, and below the row at `high`
abbrev pub invariant-loop-low : goal.invariant-loop-low
invariant-loop-low g l =
    (l.low ≤ l.high) × (l.high ≤ length l.rows)
    × ((d : Row g.row.K.Denot g.row.V.Denot) → 0 < l.low
    → g.K.Key.order l.key (get_or l.rows (l.low - 1) d).key ≡ Greater)
    × ((d : Row g.row.K.Denot g.row.V.Denot) → l.high < length l.rows
    → g.K.Key.order l.key (get_or l.rows l.high d).key ≡ Less)

abbrev pub decreases-loop-low : goal.decreases-loop-low
decreases-loop-low g l = l.high - l.low
