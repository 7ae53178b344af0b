-- What tracks mean: one buffer for each group, with the messages of that group.
use Rattle.std.specs.Prelude.{◌≡◌, ℕ, Bool, false, cond, List, [], length, Some, None, vec_items, Option, ◌==◌}
use Rattle.std.specs.Option.{option_map}
use Rattle.std.specs.List.{slice_get}
use Rattle.sequencer.specs.Records.{has_space, messages_of, with_record}
use Rattle.sequencer.specs.Tapes.{tape_buffer}
use Rattle.sequencer.specs.declared.records.Records.{Records}
use Rattle.sequencer.specs.declared.tracks.Tracks.{Tracks}

-- the messages on a track, none where there is no track
abbrev pub list_on : Option (Records 0) → List (List ℕ)
list_on None = []
list_on (Some t) = messages_of 0 (vec_items t.bytes) 0

-- whether a message of n bytes fits a track, not where there is no track
abbrev pub fits_on : Option (Records 0) → ℕ → Bool
fits_on None n = false
fits_on (Some t) n = has_space 0 (length (vec_items t.bytes)) t.size n

-- the track of a group
abbrev pub track_of : Tracks → ℕ → Option (Records 0)
track_of s g = slice_get (vec_items s.tracks) g

-- the messages of a group
abbrev pub track_lists : Tracks → ℕ → List (List ℕ)
track_lists s g = list_on (track_of s g)

-- whether a message of n bytes to a group fits
abbrev pub track_fits : Tracks → ℕ → ℕ → Bool
track_fits s g n = fits_on (track_of s g) n

-- what a message to a group leaves: its record at the end of that group's track, and every other track as it was
abbrev pub TracksLeft : Tracks → ℕ → List ℕ → Tracks → Type 0
TracksLeft s g m s' =
    let grown = with_record 0 (record { group = 0; message = m }) in
    (h : ℕ) → option_map tape_buffer (track_of s' h)
    ≡ option_map (λ b. cond (g == h) (grown b) b) (option_map tape_buffer (track_of s h))
