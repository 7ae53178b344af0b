use Rattle.std.proofs.Common.{map, length, ap, ◌∙◌, arith, true-eqb}
use Rattle.std.proofs.lemmas.List.{length-map}
use Rattle.std.proofs.lemmas.Bool.{false≢true}
use Rattle.lists.specs.Lists.{listed}
use Rattle.votes.specs.Entries.{all_wide, rises, shown}
use Rattle.votes.proofs.EntryTurns.{wide_from}
use Rattle.wire.proofs.certificate.Certificate.new.Goals as goal
use Rattle.wire.proofs.certificate.Certificate.new.Goals.{then-is_empty-via-then-is_empty, then-is_empty-via-else-is_empty+then-not-all_wide, then-is_empty-via-else-is_empty+else-not-all_wide+then-not-are_rising}

pub returns-then-is_empty : goal.returns-then-is_empty
returns-then-is_empty c fits =
    let items = c.as_slice-list.ensures.items in
    let same = ap (map shown) items in
    elim c.then-is_empty.branch [
      | then-is_empty-via-then-is_empty w ↦
          omega (arith, true-eqb _ 0 w.if-is_empty.ensures, ap length items, length-map (listed c.args.entries) shown, fits.some)
      | then-is_empty-via-else-is_empty+then-not-all_wide w ↦
          false≢true (w.if-not-all_wide.ensures ∙ ap (all_wide c.args.width) same ∙ wide_from _ _ fits.fit)
      | then-is_empty-via-else-is_empty+else-not-all_wide+then-not-are_rising w ↦
          false≢true (w.if-not-are_rising.ensures ∙ ap (rises 0) same ∙ fits.rise)
    ]
