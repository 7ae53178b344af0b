use Rattle.std.proofs.Common.{◌≡◌, List, sym, subst, arith, rules}
use Rattle.std.proofs.lemmas.List.{take_all}
use Rattle.std.specs.List.{flat_map}
use Rattle.octets.specs.Writers.{Room, Wrote}
use Rattle.octets.proofs.Writes.{room_left, wrote_more}
use Rattle.votes.specs.Entries.{entry_text}
use Rattle.votes.specs.declared.entry.Entry.{Entry}
use Rattle.wire.specs.Certificates.{certificate_model}
use Rattle.wire.proofs.CertificateWrites.{parts_written}
use Rattle.wire.proofs.certificate.writer.CertificateWritten.write.Goals as goal

pub write_all-requires : goal.write_all-requires
write_all-requires c =
    let same = parts_written (certificate_model c.args.self.now) _ c.entries-entries.ensures.value _ c.from.ensures in
    let front = wrote_more _ _ _ _ _ (omega arith) c.write.ensures c.put.ensures in
    let is = room_left _ _ _ front _ (subst (Room c.args.writer.now) (sym same) c.requires) in
    let Fits : List Entry → Type 0 = λ es. Room c.put.new.self (flat_map entry_text es) in
    subst Fits (search (rules, take_all)) is

pub returns : goal.returns
returns c =
    let same = parts_written (certificate_model c.args.self.now) _ c.entries-entries.ensures.value _ c.from.ensures in
    let front = wrote_more _ _ _ _ _ (omega arith) c.write.ensures c.put.ensures in
    let Done : List Entry → Type 0 = λ es. Wrote c.put.new.self c.write_all.new.writer (flat_map entry_text es) in
    let all : Done c.entries-entries.result.now = subst Done (search (rules, take_all)) c.write_all.ensures in
    subst (Wrote c.args.writer.now c.write_all.new.writer) same (wrote_more _ _ _ _ _ (omega arith) front all)
