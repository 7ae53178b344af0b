-- The number of each fault in the register's table of refusals.
use Rattle.std.specs.Prelude.{ℕ}
use Rattle.envelope.specs.Faults.{read_number}
use Rattle.votes.specs.declared.fault.CertificateFault.{CertificateFault}
use Rattle.votes.specs.declared.fault.CertificateFault.TheVariants.{Read, NotPending, Shape, NotGenuine}
use Rattle.votes.specs.declared.fault.DeliveryFault.{DeliveryFault}
use Rattle.votes.specs.declared.fault.DeliveryFault.TheVariants.{Certificate, NoKeyHere, BookFull, Spent}

-- what a certificate is refused for
abbrev pub certificate_number : CertificateFault → ℕ
certificate_number (Read f) = read_number f
certificate_number NotPending = 13
certificate_number Shape = 14
certificate_number NotGenuine = 15

-- what a delivery is refused for
abbrev pub delivery_number : DeliveryFault → ℕ
delivery_number (Certificate f) = certificate_number f
delivery_number NoKeyHere = 11
delivery_number BookFull = 12
delivery_number Spent = 16
