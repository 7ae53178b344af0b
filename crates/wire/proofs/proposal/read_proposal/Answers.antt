use Rattle.envelope.proofs.Envelopes.{reads}
use Rattle.wire.specs.Proposals.{proposal_format, proposed}
use Rattle.wire.proofs.proposal.read_proposal.Goals as goal

pub returns : goal.returns
returns c = reads proposal_format proposed _ _ _ c.read_message.ensures (λ rest o r. r)
