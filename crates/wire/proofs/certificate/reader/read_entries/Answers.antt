use Rattle.std.proofs.Common.{[], length, sym, ap, ◌∙◌, append-nil, true-eqb, false-eqb, rules}
use Rattle.envelope.proofs.Sequences.{all_read, ends, many_shown, none_shown}
use Rattle.votes.specs.Entries.{EntryFits, entry_bytes, shown}
use Rattle.wire.proofs.OneEntry.{same_entry}
use Rattle.wire.proofs.certificate.reader.read_entries.Goals as goal

pub returns-in_err-entries : goal.returns-in_err-entries
returns-in_err-entries c =
    let m = c.args.width in
    rw c.from_residual-in_err-entries.ensures
    (λ es l f e.
    none_shown shown (EntryFits m) entry_bytes _ _ (same_entry m) _ _ c.in_err-entries.ensures (λ b p h. search rules) (λ b h. search rules) es [] l f
    (e ∙ sym (append-nil _)))

pub returns-then-is_empty : goal.returns-then-is_empty
returns-then-is_empty c =
    let m = c.args.width in
    let o = c.in_ok-entries.ensures in
    let h = many_shown shown (EntryFits m) entry_bytes _ _ _ _ _ o.1 (λ b p h. search rules) in
    (h.many ∙ o.0, h.fit, all_read (EntryFits m) entry_bytes _ _ _ _ h (true-eqb _ 0 c.if-is_empty.ensures))

pub returns-else-is_empty : goal.returns-else-is_empty
returns-else-is_empty c =
    let m = c.args.width in
    λ es l f e.
    let o = c.in_ok-entries.ensures in
    let h = many_shown shown (EntryFits m) entry_bytes _ _ _ _ _ o.1 (λ b p h. search rules) in
    let none = ends (EntryFits m) entry_bytes (same_entry m) _ _ _ _ h es [] f (e ∙ sym (append-nil _)) (l ∙ sym o.0) in
    false-eqb _ 0 c.if-is_empty.ensures (ap length none)
