-- Marks, as bytes.
use Rattle.std.specs.Prelude.{◌≡◌, ℕ, ◌<◌, ◌≤◌, List, length, Some, None, Option}
use Rattle.lists.specs.Lists.{listed}
use Rattle.votes.specs.declared.mark.Mark.{Mark}

-- the most bytes that a mark has
abbrev pub largest_mark : ℕ
largest_mark = 60

-- the bytes of a mark
abbrev pub mark_bytes : Mark → List ℕ
mark_bytes m = listed m.0

-- the mark of these bytes, or none where they are too many
abbrev pub MadeMark : List ℕ → Option Mark → Type 0
MadeMark bs (Some m) = (mark_bytes m ≡ bs) × (length bs ≤ largest_mark)
MadeMark bs None = largest_mark < length bs
