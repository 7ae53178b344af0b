-- What one buffer means with the messages of all its groups: a tape, and each of the tracks, which has one group.
use Rattle.std.specs.Prelude.{◌≡◌, ℕ, Bool, cond, ◌&&◌, List, [], length, vec_items, nat_lt}
use Rattle.sequencer.specs.Records.{Buffer, has_space, messages_of, with_record}
use Rattle.sequencer.specs.declared.records.Records.{Records}

module _ {lead : ℕ} where
  -- the buffer
  abbrev pub tape_buffer : Records lead → Buffer
  tape_buffer t = record { used = vec_items t.bytes; size = t.size }

  -- how many groups there are
  abbrev pub groups_of : Records lead → ℕ
  groups_of t = length (vec_items t.indexes)

  -- the messages of a group, none where there is no such group
  abbrev pub tape_lists : Records lead → ℕ → List (List ℕ)
  tape_lists t g = cond (nat_lt g (groups_of t)) (messages_of lead (vec_items t.bytes) g) []

  -- whether a message of n bytes to a group fits
  abbrev pub tape_fits : Records lead → ℕ → ℕ → Bool
  tape_fits t g n = nat_lt g (groups_of t) && has_space lead (length (vec_items t.bytes)) t.size n

  -- what a message to a group leaves: its record at the end of the buffer
  abbrev pub TapeLeft : Records lead → ℕ → List ℕ → Records lead → Type 0
  TapeLeft t g m t' =
      (tape_buffer t' ≡ with_record lead (record { group = g; message = m }) (tape_buffer t)) × (groups_of t' ≡ groups_of t)
