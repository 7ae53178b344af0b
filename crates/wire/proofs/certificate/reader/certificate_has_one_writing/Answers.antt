use Rattle.envelope.proofs.Envelopes.{round_trip}
use Rattle.wire.specs.Certificates.{certificate_format, certificate_model}
use Rattle.wire.proofs.CertificateParts.{one_writing}
use Rattle.wire.proofs.certificate.reader.certificate_has_one_writing.Goals as goal

pub returns : goal.returns
returns c =
    record { one = one_writing; back = λ width. round_trip (certificate_format width) certificate_model (one_writing width) }
