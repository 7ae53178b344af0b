-- The proposal to abort a transaction.
use Rattle.envelope.specs.Formats.{Format}
use Rattle.envelope.specs.Messages.{proposal_kind}
use Rattle.envelope.specs.declared.name.Name.{Name}
use Rattle.wire.specs.Fields.{NameFits, name_bytes}

-- proposals as a kind of message: a name
abbrev pub proposal_format : Format Name
proposal_format = record { kind = proposal_kind; Fits = NameFits; contents = name_bytes }

-- the name that a proposal says
abbrev pub proposed : Name → Name
proposed x = x
