-- Where the records of a group start, which is what an index holds.
use Rattle.std.specs.Prelude.{ℕ, ◌+◌, ◌≤◌, cond, List, [], ◌∷◌, length, drop, ◌==◌}
use Rattle.envelope.specs.Messages.{largest_message}
use Rattle.sequencer.specs.Records.{Entry, entries, first, record_size, said_length}

module _ (lead : ℕ) where
  -- where the records of a group start among those of these entries, of which the first starts at `at`
  abbrev pub starts_from : ℕ → ℕ → List Entry → List ℕ
  starts_from g at [] = []
  starts_from g at (e ∷ es) =
      let later = starts_from g (at + record_size lead (length e.message)) es in
      cond (e.group == g) (at ∷ later) later

  -- where the records of a group start in the bytes
  abbrev pub starts_of : List ℕ → ℕ → List ℕ
  starts_of bs g = starts_from g 0 (entries lead bs)

  -- the message of the record that starts at p
  abbrev pub message_at : List ℕ → ℕ → List ℕ
  message_at bs p = (first lead (drop p bs)).message

  -- a record of a message that is not too long starts at p
  pub record Starts (bs : List ℕ) (p : ℕ) : Type 0 where
    pub few : said_length lead (drop p bs) ≤ largest_message
    pub inside : p + record_size lead (said_length lead (drop p bs)) ≤ length bs
