use Rattle.std.proofs.Common.{ℕ, ◌<◌, List, length, vec_items, ap, ◌∙◌, arith}
use Rattle.std.proofs.lemmas.List.{length-take-le}
use Rattle.table.specs.Insertions.{insert_answer}
use Rattle.table.specs.Rows.{lookup}
use Rattle.table.specs.Tables.{TableModel}
use Rattle.table.specs.declared.row.Row.{Row}
use Rattle.table.proofs.Insertion.{not_refused}
use Rattle.table.proofs.owned.Table.insert.Goals as goal

pub returns-in_err-at-clause-goes : goal.returns-in_err-at-clause-goes
returns-in_err-at-clause-goes g c none free =
    let cmp = g.K.Key.order in
    let rows = vec_items c.self.inside.rows in
    let filled : ℕ = c.self.inside.filled in
    let key = c.args.key in
    let count = length-take-le filled rows (omega (arith, c.self.invariant.0, c.self.inside.rows.ok.0)) in
    let room : filled < length rows =
    omega (
      arith,
      count,
      c.self.inside.rows.ok.0,
      ap (λ (t : TableModel g.row.K.Denot g.row.V.Denot). length t.rows) c.self.view_is,
      ap (λ (t : TableModel g.row.K.Denot g.row.V.Denot). t.size) c.self.view_is,
    ) in
    absurd (not_refused cmp g.met.K.Key.total rows filled key room c.self.invariant.1
    (ap (λ (t : TableModel g.row.K.Denot g.row.V.Denot). lookup cmp t.rows key) c.self.view_is ∙ none) _
    (c.in_err-at.ensures.answer
    ∙ ap (λ (rs : List (Row g.row.K.Denot g.row.V.Denot)). insert_answer cmp rs filled key) c.deref_mut.ensures.value))
