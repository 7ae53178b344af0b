-- The entries that a bounded list holds.
use Rattle.std.specs.Prelude.{List, map}
use Rattle.lists.specs.Lists.{listed}
use Rattle.lists.specs.declared.BoundedList.{BoundedList}
use Rattle.votes.specs.Entries.{EntryModel, most_entries, shown}
use Rattle.votes.specs.declared.entry.Entry.{Entry}

-- what they say
abbrev pub entry_list : BoundedList Entry most_entries → List EntryModel
entry_list es = map shown (listed es)
