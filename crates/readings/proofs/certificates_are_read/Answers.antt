use Rattle.readings.proofs.CertificateReading.{certificate_reading}
use Rattle.readings.proofs.certificates_are_read.Goals as goal

pub returns : goal.returns
returns c = certificate_reading
