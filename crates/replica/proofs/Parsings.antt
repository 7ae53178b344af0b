-- What a message is parsed as, by what the readers say of it; and the step on it.
use Rattle.std.proofs.Common.{◌≡◌, ℕ, Bool, List, Some, None, Option, sym, refl, ap, ◌∙◌, arith}
use Rattle.bodies.specs.Bodies.{BodyModel}
use Rattle.bodies.specs.Naming.{name_of}
use Rattle.envelope.specs.declared.name.Name.{Name}
use Rattle.readings.specs.Bodies.{body_of}
use Rattle.readings.specs.Certificates.{certificate_of}
use Rattle.readings.specs.Kinds.{count}
use Rattle.readings.specs.Messages.{Message, body, certificate, proposal, other, named, parsed, read_or}
use Rattle.readings.specs.Proposals.{proposal_of}
use Rattle.readings.proofs.KindBytes.{kinds_apart}
use Rattle.votes.specs.declared.statement.Statement.{Statement}
use Rattle.wire.specs.Certificates.{CertificateModel}
use Rattle.replica.specs.Models.{Config, ReplicaModel}
use Rattle.replica.specs.Steps.{Outcome, acted}

module _ (w : ℕ) (bs : List ℕ) where
  -- what is a proposal is no certificate
  no_certificate : (x : Name) → proposal_of bs ≡ Some x → certificate_of w bs ≡ None
  no_certificate x e = go (certificate_of w bs) refl
    where
      go : (o : Option CertificateModel) → certificate_of w bs ≡ o → o ≡ None
      go None f = refl
      go (Some c) f = absurd (omega (arith, (kinds_apart w w).one bs, ap count e, ap count f))

  pub parsed_body : (b : BodyModel) (x : Name) → body_of bs ≡ Some b → x.bytes ≡ name_of bs → parsed w bs ≡ body b x
  unfolding parsed
  parsed_body b x e n =
      ap (λ o. read_or (named bs) o (read_or certificate (certificate_of w bs) (read_or proposal (proposal_of bs) other))) e
      ∙ sym (λ i. body b (record { bytes = n i }))

  module _ (e : body_of bs ≡ None) where
    others : parsed w bs ≡ read_or certificate (certificate_of w bs) (read_or proposal (proposal_of bs) other)
    unfolding parsed
    others =
        ap (λ o. read_or (named bs) o (read_or certificate (certificate_of w bs) (read_or proposal (proposal_of bs) other))) e

    pub parsed_proposal : (x : Name) → proposal_of bs ≡ Some x → parsed w bs ≡ proposal x
    parsed_proposal x f =
        others
        ∙ ap (λ o. read_or certificate o (read_or proposal (proposal_of bs) other)) (no_certificate x f)
        ∙ ap (λ o. read_or proposal o other) f

    pub parsed_certificate : (c : CertificateModel) → certificate_of w bs ≡ Some c → parsed w bs ≡ certificate c
    parsed_certificate c f = others ∙ ap (λ o. read_or certificate o (read_or proposal (proposal_of bs) other)) f

    pub parsed_other : proposal_of bs ≡ None → certificate_of w bs ≡ None → parsed w bs ≡ other
    parsed_other p f =
        others
        ∙ ap (λ o. read_or certificate o (read_or proposal (proposal_of bs) other)) f ∙ ap (λ o. read_or proposal o other) p

-- what is done on the message is done on the bytes
module _ (C : Config) (genuine : Statement → List ℕ → Bool) (m : ReplicaModel) (w : ℕ) (bs : List ℕ) (x : Message)
    (e : parsed w bs ≡ x) where
  pub state_on : (m' : ReplicaModel) → m' ≡ (acted C genuine m x).0 → m' ≡ (acted C genuine m (parsed w bs)).0
  state_on m' h = h ∙ ap (λ y. (acted C genuine m y).0) (sym e)

  pub outcome_on : (o : Outcome) → o ≡ (acted C genuine m x).1 → o ≡ (acted C genuine m (parsed w bs)).1
  outcome_on o h = h ∙ ap (λ y. (acted C genuine m y).1) (sym e)
