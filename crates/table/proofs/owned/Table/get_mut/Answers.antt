use Rattle.std.proofs.Common.{ℕ, inl, sym, refl, ap, ◌∙◌}
use Rattle.std.specs.Option.{option_map}
use Rattle.std.proofs.lemmas.Option.{slice_get-get_or}
use Rattle.table.specs.Tables.{with_rows}
use Rattle.table.specs.declared.row.Row.{Row}
use Rattle.table.proofs.Lookups.{lookup_absent, lookup_present}
use Rattle.table.proofs.Valued.{valued_changed}
use Rattle.table.proofs.owned.Table.get_mut.Goals as goal

pub returns-in-Ok : goal.returns-in-Ok
returns-in-Ok g c =
    let cmp = g.K.Key.order in
    let table = c.args.self.now in
    let key = c.args.key.now in
    let at : ℕ = c.in-Ok.at in
    let place = c.in-Ok.ensures.place in
    let row : Row g.row.K.Denot g.row.V.Denot = record { key = key; value = c.value_mut.result.now } in (
      λ i. inl (c.value_mut.result.ghost_name, λ v. with_rows table (valued_changed cmp table.rows key at v place i)),
      record {
        writes_back = tt;
        value =
            sym c.value_mut.ensures.value
            ∙ ap (option_map (λ (r : Row g.row.K.Denot g.row.V.Denot). r.value)) (slice_get-get_or table.rows at row c.in-Ok.ensures.bound)
            ∙ lookup_present cmp table.rows key at row place;
      },
    )

pub returns-in-Err : goal.returns-in-Err
returns-in-Err g c =
    let cmp = g.K.Key.order in
    let laws = g.met.K.Key.total in (
      refl,
      record {
        writes_back = tt;
        value =
            lookup_absent cmp laws c.args.self.now.rows c.args.key.now c.in-Err.field-0 c.in-Err.ensures.rises
            c.in-Err.ensures.place;
      },
    )
