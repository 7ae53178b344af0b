-- A certificate as the code has it, and as it is written.
use Rattle.std.proofs.Common.{◌≡◌, ℕ, List, [], ◌∷◌, ◌++◌, map, length, sym, refl, ap, ◌∙◌, append_assoc}
use Rattle.std.specs.List.{flat_map}
use Rattle.std.proofs.lemmas.List.{length-map}
use Rattle.wire.specs.Certificates.{CertificateModel, certificate_contents}
use Rattle.votes.specs.Entries.{entry_bytes, entry_text, shown}
use Rattle.wire.specs.Fields.{name_bytes}
use Rattle.votes.specs.Votes.{vote_byte}
use Rattle.votes.specs.declared.entry.Entry.{Entry}

joined_shown : (es : List Entry) → flat_map entry_text es ≡ flat_map entry_bytes (map shown es)
joined_shown [] = refl
joined_shown (e ∷ es) = ap (λ l. entry_text e ++ l) (joined_shown es)

-- the name, the vote and the entries, as the code has them and writes them, are those of x
pub parts_written : (x : CertificateModel) (es : List Entry) → map shown es ≡ x.entries → (vote : ℕ) → vote ≡ vote_byte x.vote
    → (name_bytes x.name ++ (vote ∷ length es ∷ [])) ++ flat_map entry_text es ≡ certificate_contents x
parts_written x es same vote is =
    let size : length es ≡ length x.entries = sym (length-map es shown) ∙ ap length same in
    let bytes = joined_shown es ∙ ap (flat_map entry_bytes) same in
    let apart = append_assoc (name_bytes x.name) (vote ∷ length es ∷ []) (flat_map entry_text es) in
    cc
