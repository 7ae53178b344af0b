use Rattle.std.proofs.Common.{ℕ, is_some, ap, ◌∙◌}
use Rattle.table.specs.Rows.{rising}
use Rattle.table.proofs.Changed.{changed_absent, rising_changed}
use Rattle.table.proofs.Lookups.{lookup_absent, lookup_present}
use Rattle.table.proofs.Valued.{valued_changed, valued_is}
use Rattle.table.proofs.change.Goals as goal

pub returns-in-Ok : goal.returns-in-Ok
returns-in-Ok g c =
    let cmp = g.K.Key.order in
    let rows = c.args.rows.now in
    let key = c.args.key.now in
    let at : ℕ = c.in-Ok.at in
    let row = c.index-rows-at.result in
    let after =
    valued_is rows at row c.args.value c.in-Ok.ensures.bound
    ∙ valued_changed cmp rows key at c.args.value c.in-Ok.ensures.place in
    record {
      answer = ap is_some (lookup_present cmp rows key at row c.in-Ok.ensures.place);
      after = after;
      rises = ap (rising cmp) after ∙ rising_changed cmp rows key c.args.value ∙ c.requires;
    }

pub returns-in-Err : goal.returns-in-Err
returns-in-Err g c =
    let cmp = g.K.Key.order in
    let rows = c.args.rows.now in
    let key = c.args.key.now in
    let at = c.in-Err.field-0 in
    let none = lookup_absent cmp g.met.K.Key.total rows key at c.requires c.in-Err.ensures.place in
    record {
      answer = ap is_some none;
      after = changed_absent cmp rows key c.args.value none;
      rises = c.requires;
    }
