-- A certificate: what it says, when it is well formed, and how it is written.
use Rattle.std.specs.Prelude.{◌≡◌, ℕ, ◌≤◌, true, List, ◌∷◌, ◌++◌, length, Some, None, Option, ◌≢◌}
use Rattle.std.specs.List.{flat_map, AllByRecursion}
use Rattle.envelope.specs.Formats.{Format, written}
use Rattle.envelope.specs.Messages.{certificate_kind}
use Rattle.envelope.specs.declared.name.Name.{Name}
use Rattle.votes.specs.Entries.{EntryFits, EntryModel, entry_bytes, most_entries, rises}
use Rattle.votes.specs.EntryLists.{entry_list}
use Rattle.lists.specs.declared.BoundedList.{BoundedList}
use Rattle.wire.specs.Fields.{NameFits, name_bytes}
use Rattle.votes.specs.Votes.{vote_byte}
use Rattle.wire.specs.declared.certificate.Certificate.{Certificate}
use Rattle.votes.specs.declared.entry.Entry.{Entry}
use Rattle.votes.specs.declared.vote.Vote.{Vote}

-- what a certificate says
pub record CertificateModel : Type 0 where
  pub name : Name
  pub vote : Vote
  pub entries : List EntryModel

-- what the code's certificate says
abbrev pub certificate_model : Certificate → CertificateModel
certificate_model c = record { name = c.name; vote = c.vote; entries = entry_list c.entries }

-- one to 32 entries that rise, with marks of m bytes
pub record CertificateFits (m : ℕ) (c : CertificateModel) : Type 0 where
  pub name_fits : NameFits c.name
  pub some : 1 ≤ length c.entries
  pub few : length c.entries ≤ most_entries
  pub fit : AllByRecursion (EntryFits m) c.entries
  pub rise : rises 0 c.entries ≡ true

-- the name, the vote, how many entries there are, and the entries
abbrev pub certificate_contents : CertificateModel → List ℕ
certificate_contents c =
    name_bytes c.name ++ (vote_byte c.vote ∷ length c.entries ∷ flat_map entry_bytes c.entries)

-- certificates with marks of m bytes, as a kind of message
abbrev pub certificate_format : ℕ → Format CertificateModel
certificate_format m = record { kind = certificate_kind; Fits = CertificateFits m; contents = certificate_contents }

-- the writing of the code's certificate
abbrev pub certificate_text : Certificate → List ℕ
certificate_text c = written (certificate_format c.width) (certificate_model c)

-- n entries, which bs is the writing of; or bs is the writing of no n entries
abbrev pub ReadsEntries : ℕ → ℕ → List ℕ → Option (BoundedList Entry most_entries) → Type 0
ReadsEntries m n bs (Some es) =
    (length (entry_list es) ≡ n) × AllByRecursion (EntryFits m) (entry_list es) × (bs ≡ flat_map entry_bytes (entry_list es))
ReadsEntries m n bs None =
    (es : List EntryModel) → length es ≡ n → AllByRecursion (EntryFits m) es → bs ≢ flat_map entry_bytes es

-- the certificate that is made of these parts; where it would not be well formed there is none
abbrev pub MadeCertificate : ℕ → CertificateModel → Option Certificate → Type 0
MadeCertificate m x (Some c) = (certificate_model c ≡ x) × (c.width ≡ m)
MadeCertificate m x None = CertificateFits m x → ⊥
