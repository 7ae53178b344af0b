use Rattle.std.proofs.Common.{◌∙◌, arith, rules}
use Rattle.votes.proofs.Tables.{found_ok}
use Rattle.wire.proofs.CertificateParts.{made_of, no_entries, no_name, no_vote, too_many, too_short}
use Rattle.wire.proofs.OneEntry.{two}
use Rattle.wire.proofs.certificate.reader.read_contents.Goals as goal

pub returns-in_err-name : goal.returns-in_err-name
returns-in_err-name c = rw c.from_residual.ensures (no_name _ _ c.in_err-name.ensures)

pub returns-in_default : goal.returns-in_default
returns-in_default c =
    let n = c.in_ok-name.ensures in
    too_short _ _ c.in_ok-name.name n.0 _ n.1 (search rules)

pub returns-in_err-vote : goal.returns-in_err-vote
returns-in_err-vote c =
    let n = c.in_ok-name.ensures in
    let t = two c.in_ok-name.rest.now (search rules) in
    rw c.from_residual-in_err-vote.ensures
    (no_vote _ _ c.in_ok-name.name n.0 _ n.1 _ _ _ t (c.in_err-vote.ensures.value ∙ found_ok _ _ c.try_from.ensures))

pub returns-then-count-gt-MOST_ENTRIES : goal.returns-then-count-gt-MOST_ENTRIES
returns-then-count-gt-MOST_ENTRIES c =
    let n = c.in_ok-name.ensures in
    let t = two c.in_ok-name.rest.now (search rules) in
    too_many _ _ c.in_ok-name.name n.0 _ n.1 _ _ _ t c.if-count-gt-MOST_ENTRIES.true

pub returns-in_err-entries : goal.returns-in_err-entries
returns-in_err-entries c =
    let n = c.in_ok-name.ensures in
    let t = two c.in_ok-name.rest.now (search rules) in
    rw c.from_residual-in_err-entries.ensures
    (no_entries _ _ c.in_ok-name.name n.0 _ n.1 _ _ _ t c.in_err-entries.ensures)

pub returns : goal.returns
returns c =
    let n = c.in_ok-name.ensures in
    let t = two c.in_ok-name.rest.now (search rules) in
    let es = c.in_ok-entries.ensures in
    made_of _ _ c.in_ok-name.name n.0 _ n.1 _ _ _ t c.in_ok-vote.vote (c.in_ok-vote.ensures.value ∙ found_ok _ _ c.try_from.ensures)
    _ es.0 es.1 es.2 (omega arith) c.new.result c.new.ensures
