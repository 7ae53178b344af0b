use Rattle.std.proofs.Common.{sym, ◌∙◌, subst, append-nil}
use Rattle.envelope.specs.Formats.{ReadsContents}
use Rattle.wire.specs.Fields.{name_bytes}
use Rattle.wire.specs.Proposals.{proposal_format, proposed}
use Rattle.wire.proofs.OneName.{name_alone}
use Rattle.wire.proofs.proposal.read_contents.Goals as goal

pub returns-in_err-name : goal.returns-in_err-name
returns-in_err-name c =
    rw c.from_residual.ensures (λ x f e. c.in_err-name.ensures x _ f (e ∙ sym (append-nil (name_bytes x))))

pub returns : goal.returns
returns c =
    let read = c.in_ok-name.ensures in
    subst (ReadsContents proposal_format proposed c.args.text.now) (sym c.then_some.ensures)
    (name_alone _ _ _ read.0 read.1 _ c.is_empty.ensures)
