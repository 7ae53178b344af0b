-- Proposals are read by the function as by the relation.
use Rattle.std.proofs.Common.{◌≡◌, [], length, Decides, sym, ap, ◌∙◌, append-nil}
use Rattle.std.proofs.lemmas.Bool.Decides.{Decides-eqb}
use Rattle.envelope.specs.Formats.{written}
use Rattle.envelope.specs.declared.name.Name.{Name}
use Rattle.wire.specs.Fields.{NameFits, name_bytes}
use Rattle.wire.specs.Proposals.{proposal_format, proposed}
use Rattle.readings.specs.Parts.{fits_name, name_at}
use Rattle.readings.specs.Proposals.{proposal_candidate, proposal_of}
use Rattle.readings.specs.Readings.{SameReading}
use Rattle.readings.proofs.PartsBack.{name_back}
use Rattle.readings.proofs.Readings.{Suits, same_reading}

pub decides_name : (x : Name) → Decides (fits_name x) (NameFits x)
decides_name x = Decides-eqb (length x.bytes) 32

proposal_back : (x : Name) → NameFits x → proposal_candidate (written proposal_format x) ≡ x
unfolding written
proposal_back x fits = ap (name_at 0) (sym (append-nil (name_bytes x))) ∙ name_back x [] fits

suits : Suits proposal_format fits_name proposal_candidate
suits = record { decides = decides_name; back = proposal_back }

pub proposal_reading : SameReading proposal_format proposed proposal_of
unfolding proposal_of
proposal_reading = same_reading proposal_format fits_name proposal_candidate suits proposed
