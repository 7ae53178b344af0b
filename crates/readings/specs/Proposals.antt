-- What bytes read as, as a proposal.
use Rattle.std.specs.Prelude.{ℕ, List, Option}
use Rattle.envelope.specs.declared.name.Name.{Name}
use Rattle.wire.specs.Proposals.{proposal_format}
use Rattle.readings.specs.Parts.{fits_name, name_at}
use Rattle.readings.specs.Readings.{read_as}

-- the name after the four first bytes
abbrev pub proposal_candidate : List ℕ → Name
proposal_candidate = name_at 4

-- the name in the proposal that bytes are the writing of
unfoldable pub proposal_of : List ℕ → Option Name
proposal_of = read_as proposal_format fits_name proposal_candidate
