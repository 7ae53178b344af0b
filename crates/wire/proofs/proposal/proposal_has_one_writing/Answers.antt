use Rattle.std.proofs.Common.{ap}
use Rattle.envelope.specs.Formats.{OneWriting}
use Rattle.envelope.proofs.Envelopes.{round_trip, same_contents}
use Rattle.wire.specs.Proposals.{proposal_format, proposed}
use Rattle.wire.proofs.proposal.proposal_has_one_writing.Goals as goal

one_writing : OneWriting proposal_format
one_writing a b f g e = ap (λ bs. record { bytes = bs }) (same_contents proposal_format a b e)

pub returns : goal.returns
returns c = record { one = one_writing; back = round_trip proposal_format proposed one_writing }
