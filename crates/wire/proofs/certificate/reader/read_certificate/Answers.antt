use Rattle.std.proofs.Common.{rules}
use Rattle.envelope.proofs.Envelopes.{reads}
use Rattle.wire.specs.Certificates.{certificate_format, certificate_model}
use Rattle.wire.proofs.certificate.reader.read_certificate.Goals as goal

pub returns : goal.returns
returns c = reads (certificate_format c.args.width) certificate_model _ _ _ c.read_message.ensures (λ rest o r. (r.0, search rules, r.2))
