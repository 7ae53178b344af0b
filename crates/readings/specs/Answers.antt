-- What bytes read as, as an answer.
use Rattle.std.specs.Prelude.{ℕ, ◌+◌, ◌*◌, Bool, true, ◌&&◌, List, length, drop, Some, None, Option, ◌==◌, nat_le, nat_lt, slice_index, slice_index_or}
use Rattle.std.specs.Option.{unwrap_or}
use Rattle.std.specs.List.{list_all}
use Rattle.octets.specs.Numbers.{bytes64}
use Rattle.votes.specs.Grounds.{blocker_of, ground_of}
use Rattle.votes.specs.Marks.{largest_mark}
use Rattle.votes.specs.States.{state_of}
use Rattle.votes.specs.Values.{most_values}
use Rattle.votes.specs.declared.ground.Blocker.{Blocker}
use Rattle.votes.specs.declared.ground.Ground.{Ground}
use Rattle.votes.specs.declared.ground.Ground.TheVariants as ground
use Rattle.votes.specs.declared.state.State.TheVariants as state
use Rattle.wire.specs.Answers.{AnswerModel, answer_format}
use Rattle.readings.specs.Certificates.{vote_at}
use Rattle.readings.specs.Parts.{bytes_at, fits64, fits_name, in_order, name_at, number_at}
use Rattle.readings.specs.Readings.{read_as}

-- the name after the four first bytes, five bytes, the mark, how many reads there are, the reads, and the blocker
abbrev pub answer_candidate : ℕ → List ℕ → AnswerModel
answer_candidate m bs =
    let tail = drop m (drop 41 bs) in
    let count = slice_index_or tail 0 0 in
    let ground : Ground = unwrap_or (ground_of (slice_index bs 40) (drop (1 + 8 * count) tail)) ground.Pending in
    record {
      name = name_at 4 bs;
      group = slice_index bs 36;
      replica = slice_index bs 37;
      vote = vote_at 38 bs;
      state = unwrap_or (state_of (slice_index bs 39)) state.Pending;
      ground = ground;
      mark = bytes_at 41 m bs;
      reads = in_order (number_at 0 8) bytes64 count (drop 1 tail);
    }

-- whether a blocker, if there is one, fits its bytes
abbrev pub fits_blocker : Option Blocker → Bool
fits_blocker None = true
fits_blocker (Some b) = fits_name b.name && nat_lt b.groups.bits 256

-- whether an answer is well formed
abbrev pub fits_answer : ℕ → AnswerModel → Bool
fits_answer m a =
    fits_name a.name
    && (nat_lt a.group 256
    && (nat_lt a.replica 256
    && (fits_blocker (blocker_of a.ground)
    && (length a.mark == m
    && (nat_le m largest_mark && (nat_le (length a.reads) most_values && list_all fits64 a.reads))))))

-- the answer with a mark of m bytes that bytes are the writing of
unfoldable pub answer_of : ℕ → List ℕ → Option AnswerModel
answer_of m = read_as (answer_format m) (fits_answer m) (answer_candidate m)
