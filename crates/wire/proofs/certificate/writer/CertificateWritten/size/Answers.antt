use Rattle.std.proofs.Common.{[], ◌∷◌, ◌++◌, length, refl, ap, arith, length-append}
use Rattle.std.specs.List.{flat_map}
use Rattle.votes.specs.Entries.{entry_text}
use Rattle.votes.specs.Votes.{vote_byte}
use Rattle.wire.specs.Certificates.{certificate_model}
use Rattle.wire.proofs.CertificateWrites.{parts_written}
use Rattle.wire.proofs.certificate.writer.CertificateWritten.size.Goals as goal

pub returns-clause-size : goal.returns-clause-size
returns-clause-size c =
    let x = certificate_model c.args.self.now in
    let es = c.entries.result.now in
    let head = vote_byte x.vote ∷ length es ∷ [] in
    let whole = ap length (parts_written x es c.entries.ensures.value _ refl) in
    omega (
      arith,
      whole,
      length-append (x.name.bytes ++ head) (flat_map entry_text es),
      length-append x.name.bytes head,
      c.size.ensures.size,
      c.size_of_all.ensures.size,
    )
