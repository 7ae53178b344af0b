-- The kind byte tells which reading there can be.
use Rattle.std.proofs.Common.{◌≡◌, ℕ, ◌≤◌, ◌⊎◌, List, get_or, Some, None, Option, sym, refl, ap, subst, inl, inr, ⊎_elim, arith}
use Rattle.std.proofs.lemmas.Bool.{cases_eq}
use Rattle.bodies.specs.Bodies.{body_format, body_model}
use Rattle.envelope.specs.Formats.{Format, Writing, written}
use Rattle.envelope.specs.Messages.{answer_kind, body_kind, certificate_kind, proposal_kind}
use Rattle.wire.specs.Answers.{answer_format, answer_model}
use Rattle.wire.specs.Certificates.{certificate_format, certificate_model}
use Rattle.wire.specs.Proposals.{proposal_format, proposed}
use Rattle.readings.specs.Answers.{answer_of}
use Rattle.readings.specs.Bodies.{body_of}
use Rattle.readings.specs.Certificates.{certificate_of}
use Rattle.readings.specs.Kinds.{HasKind, KindsApart, OfKind, count}
use Rattle.readings.specs.Proposals.{proposal_of}
use Rattle.readings.specs.Readings.{SameReading}
use Rattle.readings.proofs.AnswerReading.{answer_reading}
use Rattle.readings.proofs.BodyReading.{body_reading}
use Rattle.readings.proofs.CertificateReading.{certificate_reading}
use Rattle.readings.proofs.ProposalReading.{proposal_reading}
use Rattle.readings.proofs.Readings.{nothing_read}

-- a writing begins as its kind does
pub has_kind : {X : Type 0} (F : Format X) (bs : List ℕ) (x : X) → Writing F bs x → HasKind F.kind bs
unfolding written
has_kind F bs x w =
    subst (HasKind F.kind) (sym w.whole) (record { long = omega arith; first = refl; next = refl })

of_kind : {C X : Type 0} (F : Format X) (model : C → X) (read : List ℕ → Option X) → SameReading F model read
    → OfKind F.kind read
of_kind F model read same bs none = nothing_read (read bs) (λ x e. none (has_kind F bs x (same.only bs x e)))

pub body_kind_lem : OfKind body_kind body_of
body_kind_lem = of_kind body_format body_model body_of body_reading

pub certificate_kind_lem : (m : ℕ) → OfKind certificate_kind (certificate_of m)
certificate_kind_lem m = of_kind (certificate_format m) certificate_model (certificate_of m) (certificate_reading m)

pub proposal_kind_lem : OfKind proposal_kind proposal_of
proposal_kind_lem = of_kind proposal_format proposed proposal_of proposal_reading

pub answer_kind_lem : (m : ℕ) → OfKind answer_kind (answer_of m)
answer_kind_lem m = of_kind (answer_format m) answer_model (answer_of m) (answer_reading m)

count_small : {X : Type 0} (o : Option X) → count o ≤ 1
count_small (Some x) = omega arith
count_small None = omega arith

-- what is read under another kind byte counts for nothing
counted : {X : Type 0} (kind : ℕ) (read : List ℕ → Option X) → OfKind kind read → (bs : List ℕ)
    → ((get_or bs 3 0 ≡ kind) × (count (read bs) ≤ 1)) ⊎ (count (read bs) ≡ 0)
counted kind read of bs =
    ⊎_elim (λ is. inl (is, count_small (read bs))) (λ not. inr (ap count (of bs (λ h. not h.next))))
    (cases_eq (get_or bs 3 0) kind)

pub kinds_apart : (m n : ℕ) → KindsApart m n
kinds_apart m n =
    record {
      body = body_kind_lem;
      certificate = certificate_kind_lem m;
      proposal = proposal_kind_lem;
      answer = answer_kind_lem n;
      one = λ bs.
          let b = counted body_kind body_of body_kind_lem bs in
          let c = counted certificate_kind (certificate_of m) (certificate_kind_lem m) bs in
          let p = counted proposal_kind proposal_of proposal_kind_lem bs in
          let a = counted answer_kind (answer_of n) (answer_kind_lem n) bs in
          omega arith;
    }
