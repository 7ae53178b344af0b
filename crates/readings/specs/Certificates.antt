-- What bytes read as, as a certificate.
use Rattle.std.specs.Prelude.{ℕ, Bool, ◌&&◌, List, length, drop, Option, ◌==◌, nat_le, nat_lt, slice_index}
use Rattle.std.specs.Option.{unwrap_or}
use Rattle.std.specs.List.{list_all}
use Rattle.votes.specs.Entries.{EntryModel, entry_bytes, most_entries, rises}
use Rattle.votes.specs.Marks.{largest_mark}
use Rattle.votes.specs.Votes.{vote_of}
use Rattle.votes.specs.declared.vote.Vote.{Vote}
use Rattle.votes.specs.declared.vote.Vote.TheVariants.{Abort}
use Rattle.wire.specs.Certificates.{CertificateModel, certificate_format}
use Rattle.readings.specs.Parts.{bytes_at, fits_name, in_order, name_at}
use Rattle.readings.specs.Readings.{read_as}

-- the vote at place p
abbrev pub vote_at : ℕ → List ℕ → Vote
vote_at p bs = unwrap_or (vote_of (slice_index bs p)) Abort

-- the entry at the front: a group, a replica, and a mark of m bytes
abbrev pub first_entry : ℕ → List ℕ → EntryModel
first_entry m bs = record { group = slice_index bs 0; replica = slice_index bs 1; mark = bytes_at 2 m bs }

-- the name after the four first bytes, the vote, how many entries there are, and the entries
abbrev pub certificate_candidate : ℕ → List ℕ → CertificateModel
certificate_candidate m bs =
    record {
      name = name_at 4 bs;
      vote = vote_at 36 bs;
      entries = in_order (first_entry m) entry_bytes (slice_index bs 37) (drop 38 bs);
    }

-- whether an entry is well formed
abbrev pub fits_entry : ℕ → EntryModel → Bool
fits_entry m e =
    nat_lt e.group 256 && (nat_lt e.replica 256 && (length e.mark == m && nat_le m largest_mark))

-- whether a certificate is well formed
abbrev pub fits_certificate : ℕ → CertificateModel → Bool
fits_certificate m c =
    let es = c.entries in
    fits_name c.name
    && (nat_le 1 (length es) && (nat_le (length es) most_entries && (list_all (fits_entry m) es && rises 0 es)))

-- the certificate with marks of m bytes that bytes are the writing of
unfoldable pub certificate_of : ℕ → List ℕ → Option CertificateModel
certificate_of m = read_as (certificate_format m) (fits_certificate m) (certificate_candidate m)
