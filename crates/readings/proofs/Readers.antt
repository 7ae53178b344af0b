-- What the readers in code answer is what the bytes read as.
use Rattle.std.proofs.Common.{◌≡◌, ℕ, List, Result}
use Rattle.bodies.specs.Bodies.{body_format, body_model}
use Rattle.bodies.specs.declared.body.Body.{Body}
use Rattle.envelope.specs.Formats.{Reads}
use Rattle.envelope.specs.declared.fault.ReadFault.{ReadFault}
use Rattle.envelope.specs.declared.name.Name.{Name}
use Rattle.wire.specs.Answers.{answer_format, answer_model}
use Rattle.wire.specs.Certificates.{certificate_format, certificate_model}
use Rattle.wire.specs.Proposals.{proposal_format, proposed}
use Rattle.wire.specs.declared.answer.Answer.{Answer}
use Rattle.wire.specs.declared.certificate.Certificate.{Certificate}
use Rattle.readings.specs.Answers.{answer_of}
use Rattle.readings.specs.Bodies.{body_of}
use Rattle.readings.specs.Certificates.{certificate_of}
use Rattle.readings.specs.Proposals.{proposal_of}
use Rattle.readings.specs.Readings.{said}
use Rattle.readings.proofs.AnswerReading.{answer_reading}
use Rattle.readings.proofs.BodyReading.{body_reading}
use Rattle.readings.proofs.CertificateReading.{certificate_reading}
use Rattle.readings.proofs.ProposalReading.{proposal_reading}

pub read_body : (bs : List ℕ) (r : Result Body ReadFault) → Reads body_format body_model bs r
    → body_of bs ≡ said body_model r
read_body = body_reading.code

pub read_certificate : (m : ℕ) (bs : List ℕ) (r : Result Certificate ReadFault)
    → Reads (certificate_format m) certificate_model bs r → certificate_of m bs ≡ said certificate_model r
read_certificate m = (certificate_reading m).code

pub read_proposal : (bs : List ℕ) (r : Result Name ReadFault) → Reads proposal_format proposed bs r
    → proposal_of bs ≡ said proposed r
read_proposal = proposal_reading.code

pub read_answer : (m : ℕ) (bs : List ℕ) (r : Result Answer ReadFault) → Reads (answer_format m) answer_model bs r
    → answer_of m bs ≡ said answer_model r
read_answer m = (answer_reading m).code
