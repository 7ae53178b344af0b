-- The byte of each kind of message.
use Rattle.std.specs.Prelude.{ℕ}
use Rattle.envelope.specs.Messages.{answer_kind, body_kind, certificate_kind, proposal_kind}
use Rattle.envelope.specs.declared.message.Kind.{Kind}
use Rattle.envelope.specs.declared.message.Kind.TheVariants.{Body, Certificate, Proposal, Answer}

abbrev pub kind_byte : Kind → ℕ
kind_byte Body = body_kind
kind_byte Certificate = certificate_kind
kind_byte Proposal = proposal_kind
kind_byte Answer = answer_kind
