use Rattle.std.proofs.Common.{ℕ, ◌<◌, List, length, take, vec_items, vec_len, sym, refl, ap, ◌∙◌, arith}
use Rattle.std.specs.List.{slice_get}
use Rattle.std.specs.Option.{option_map}
use Rattle.std.proofs.lemmas.List.{get_or-take, length-take-le}
use Rattle.std.proofs.lemmas.Option.{slice_get_read}
use Rattle.table.specs.Rows.{rising, valued}
use Rattle.table.specs.Tables.{TableModel, with_rows}
use Rattle.table.specs.declared.row.Row.{Row}
use Rattle.table.proofs.Valued.{rising_valued, take_valued, valued_read}
use Rattle.table.proofs.owned.Table.value_mut.Goals as goal

pub invariant_of-self-lent : goal.invariant_of-self-lent
invariant_of-self-lent g c w =
    let cmp = g.K.Key.order in
    let rows = vec_items c.self.inside.rows in
    let filled : ℕ = c.self.inside.filled in
    let at : ℕ = c.args.at in
    let shown = ap (λ (t : TableModel g.row.K.Denot g.row.V.Denot). length t.rows) c.self.view_is in
    let count = length-take-le filled rows (omega (arith, c.self.invariant.0, c.self.inside.rows.ok.0)) in
    let low : at < length rows = omega (arith, c.self.invariant.0, c.self.inside.rows.ok.0) in (
      c.self.invariant.0,
      ap (λ (l : List (Row g.row.K.Denot g.row.V.Denot)). rising cmp (take filled l)) (valued_read rows at c.index_mut-row.result.now w low c.index_mut-row.ensures.value)
          ∙ ap (rising cmp) (take_valued filled rows at w) ∙ rising_valued cmp (take filled rows) at w ∙ c.self.invariant.1,
    )

pub returns : goal.returns
returns g c =
    let rows = vec_items c.self.inside.rows in
    let filled : ℕ = c.self.inside.filled in
    let at : ℕ = c.args.at in
    let row = c.index_mut-row.result.now in
    let shown = ap (λ (t : TableModel g.row.K.Denot g.row.V.Denot). length t.rows) c.self.view_is in
    let count = length-take-le filled rows (omega (arith, c.self.invariant.0, c.self.inside.rows.ok.0)) in
    let front : at < filled = omega (arith) in
    let low : at < length rows = omega (arith, c.self.invariant.0, c.self.inside.rows.ok.0) in
    let seen : TableModel g.row.K.Denot g.row.V.Denot = record { rows = take filled rows; size = vec_len c.self.inside.rows } in (
      (
        refl,
        λ w.
            ap (with_rows seen) (ap (take filled) (valued_read rows at row w low c.index_mut-row.ensures.value) ∙ take_valued filled rows at w)
            ∙ ap (λ (t : TableModel g.row.K.Denot g.row.V.Denot). with_rows t (valued t.rows at w)) c.self.view_is,
      ),
      record {
        writes_back = tt;
        value =
            ap (λ (t : TableModel g.row.K.Denot g.row.V.Denot). option_map (λ (r : Row g.row.K.Denot g.row.V.Denot). r.value) (slice_get t.rows at)) (sym c.self.view_is)
            ∙ ap (option_map (λ (r : Row g.row.K.Denot g.row.V.Denot). r.value))
            (slice_get_read (take filled rows) filled at row (sym count) front
            (c.index_mut-row.ensures.value ∙ sym (get_or-take filled rows at row front)));
      },
    )
