use Rattle.readings.proofs.ProposalReading.{proposal_reading}
use Rattle.readings.proofs.proposals_are_read.Goals as goal

pub returns : goal.returns
returns c = proposal_reading
