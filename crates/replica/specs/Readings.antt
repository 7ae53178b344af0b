-- What the code's reading of a certificate says.
use Rattle.std.specs.Prelude.{◌≡◌, ℕ, List, Some, None, Ok, Err, Result}
use Rattle.envelope.specs.declared.fault.ReadFault.TheVariants.{Malformed}
use Rattle.readings.specs.Certificates.{certificate_of}
use Rattle.votes.specs.declared.fault.CertificateFault.{CertificateFault}
use Rattle.votes.specs.declared.fault.CertificateFault.TheVariants.{Read}
use Rattle.wire.specs.Certificates.{certificate_model}
use Rattle.wire.specs.declared.certificate.Certificate.{Certificate}

-- the certificate that bytes read as, or that they are malformed
abbrev pub ReadsCertificate : ℕ → List ℕ → Result Certificate CertificateFault → Type 0
ReadsCertificate width bs (Ok c) = certificate_of width bs ≡ Some (certificate_model c)
ReadsCertificate width bs (Err fault) = (certificate_of width bs ≡ None) × (fault ≡ Read Malformed)
