-- What it is to read an entry off the front of some bytes.
use Rattle.std.specs.Prelude.{◌≡◌, ℕ, List, ◌++◌, Some, None, Option, ◌≢◌}
use Rattle.std.specs.Borrow.{Bor}
use Rattle.votes.specs.Entries.{EntryFits, EntryModel, entry_bytes, shown}
use Rattle.votes.specs.declared.entry.Entry.{Entry}

-- bs begins with the entry that was read, and the rest follows; or it begins with no entry
abbrev pub FirstEntry : ℕ → List ℕ → Option (Entry × Bor (List ℕ)) → Type 0
FirstEntry m bs (Some p) = EntryFits m (shown p.0) × (bs ≡ entry_bytes (shown p.0) ++ p.1.now)
FirstEntry m bs None = (e : EntryModel) (rest : List ℕ) → EntryFits m e → bs ≢ entry_bytes e ++ rest
