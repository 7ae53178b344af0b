-- What a replica takes a message on its list for, as a function of the bytes and as a relation.
use Rattle.std.specs.Prelude.{◌≡◌, ℕ, List, Some, None, Option}
use Rattle.bodies.specs.Bodies.{BodyFits, BodyModel, body_format}
use Rattle.bodies.specs.Naming.{name_of}
use Rattle.envelope.specs.Formats.{Format, Writing}
use Rattle.envelope.specs.declared.name.Name.{Name}
use Rattle.wire.specs.Certificates.{CertificateFits, CertificateModel, certificate_format}
use Rattle.wire.specs.Fields.{NameFits}
use Rattle.wire.specs.Proposals.{proposal_format}
use Rattle.readings.specs.Bodies.{body_of}
use Rattle.readings.specs.Certificates.{certificate_of}
use Rattle.readings.specs.Proposals.{proposal_of}

-- a body with its name, a certificate, a proposal, or anything else, an answer included
pub data Message : Type 0 where
  body : BodyModel → Name → Message
  certificate : CertificateModel → Message
  proposal : Name → Message
  other : Message

-- a body with the name of these bytes
abbrev pub named : List ℕ → BodyModel → Message
named bs b = body b (record { bytes = name_of bs })

-- the message of what was read; where nothing was, another
abbrev pub read_or : {X : Type 0} → (X → Message) → Option X → Message → Message
read_or f (Some x) m = f x
read_or f None m = m

-- what bytes say, where marks have m bytes
unfoldable pub parsed : ℕ → List ℕ → Message
parsed m bs =
    read_or (named bs) (body_of bs) (read_or certificate (certificate_of m bs) (read_or proposal (proposal_of bs) other))

-- bs is the writing of nothing of a format
abbrev pub NoWriting : {X : Type 0} → Format X → List ℕ → Type 0
NoWriting {X} F bs = (x : X) → Writing F bs x → ⊥

-- bs is the writing of this message, and is named as it says; or of no body, no certificate and no proposal
abbrev pub Says : ℕ → List ℕ → Message → Type 0
Says m bs (body b x) = Writing body_format bs b × (x.bytes ≡ name_of bs)
Says m bs (certificate c) = Writing (certificate_format m) bs c
Says m bs (proposal x) = Writing proposal_format bs x
Says m bs other = NoWriting body_format bs × NoWriting (certificate_format m) bs × NoWriting proposal_format bs

-- a message is well formed, and its name has 32 bytes
abbrev pub MessageFits : ℕ → Message → Type 0
MessageFits m (body b x) = BodyFits b × NameFits x
MessageFits m (certificate c) = CertificateFits m c
MessageFits m (proposal x) = NameFits x
MessageFits m other = Unit {0}

-- bytes say what they are parsed as, and nothing else; and that is well formed
pub record ParsedIsSaid (m : ℕ) : Type 0 where
  pub says : (bs : List ℕ) → Says m bs (parsed m bs)
  pub only : (bs : List ℕ) (x : Message) → Says m bs x → parsed m bs ≡ x
  pub fits : (bs : List ℕ) → MessageFits m (parsed m bs)
