-- The entries of a certificate: what each says, how it is written, and their order.
use Rattle.std.specs.Prelude.{◌≡◌, ℕ, ◌+◌, ◌*◌, ◌<◌, ◌≤◌, Bool, true, ◌&&◌, List, [], ◌∷◌, length, ◌==◌, nat_le}
use Rattle.std.specs.List.{list_all}
use Rattle.votes.specs.Marks.{largest_mark, mark_bytes}
use Rattle.votes.specs.declared.entry.Entry.{Entry}

-- the most entries that a certificate has
abbrev pub most_entries : ℕ
most_entries = 32

-- one replica's mark
pub record EntryModel : Type 0 where
  pub group : ℕ
  pub replica : ℕ
  pub mark : List ℕ

-- what the code's entry says
abbrev pub shown : Entry → EntryModel
shown e = record { group = e.group; replica = e.replica; mark = mark_bytes e.mark }

-- an entry is written as a group byte, a replica byte and the mark
abbrev pub entry_bytes : EntryModel → List ℕ
entry_bytes e = e.group ∷ e.replica ∷ e.mark

-- how the code's entry is written
abbrev pub entry_text : Entry → List ℕ
entry_text e = entry_bytes (shown e)

-- the mark has m bytes, and is not too large
pub record EntryFits (m : ℕ) (e : EntryModel) : Type 0 where
  pub group_fits : e.group < 256
  pub replica_fits : e.replica < 256
  pub mark_fits : length e.mark ≡ m
  pub small : m ≤ largest_mark

-- whether every mark has m bytes
abbrev pub all_wide : ℕ → List EntryModel → Bool
all_wide m es = list_all (λ e. length e.mark == m) es

-- the order of entries: by group, then by replica
abbrev pub rank : EntryModel → ℕ
rank e = e.group * 256 + e.replica

-- whether the ranks rise strictly, and none is below the least
abbrev pub rises : ℕ → List EntryModel → Bool
rises least [] = true
rises least (e ∷ es) = nat_le least (rank e) && rises (rank e + 1) es
