-- An answer: what it says, when it is well formed, and how it is written.
use Rattle.std.specs.Prelude.{◌≡◌, ℕ, ◌<◌, ◌≤◌, List, [], ◌∷◌, ◌++◌, length, Some, None, Option, ◌≢◌}
use Rattle.std.specs.Borrow.{Bor}
use Rattle.std.specs.List.{flat_map, AllByRecursion}
use Rattle.octets.specs.Numbers.{Fits64, bytes64}
use Rattle.envelope.specs.Formats.{Format, written}
use Rattle.envelope.specs.Messages.{answer_kind}
use Rattle.envelope.specs.declared.name.Name.{Name}
use Rattle.wire.specs.Fields.{NameFits, name_bytes}
use Rattle.votes.specs.Grounds.{GroundFits, ground_byte, ground_end}
use Rattle.votes.specs.Marks.{largest_mark, mark_bytes}
use Rattle.votes.specs.States.{state_byte}
use Rattle.votes.specs.Values.{most_values}
use Rattle.votes.specs.Votes.{vote_byte}
use Rattle.lists.specs.Lists.{listed}
use Rattle.lists.specs.declared.BoundedList.{BoundedList}
use Rattle.wire.specs.declared.answer.Answer.{Answer}
use Rattle.wire.specs.declared.answer.reader.Head.{Head}
use Rattle.votes.specs.declared.ground.Ground.{Ground}
use Rattle.votes.specs.declared.state.State.{State}
use Rattle.votes.specs.declared.vote.Vote.{Vote}

-- what an answer says
pub record AnswerModel : Type 0 where
  pub name : Name
  pub group : ℕ
  pub replica : ℕ
  pub vote : Vote
  pub state : State
  pub ground : Ground
  pub mark : List ℕ
  pub reads : List ℕ

-- what the code's answer says
abbrev pub answer_model : Answer → AnswerModel
answer_model a =
    record {
      name = a.name;
      group = a.group;
      replica = a.replica;
      vote = a.vote;
      state = a.state;
      ground = a.ground;
      mark = mark_bytes a.mark;
      reads = listed a.reads;
    }

-- a mark of m bytes, and at most 16 reads
pub record AnswerFits (m : ℕ) (a : AnswerModel) : Type 0 where
  pub name_fits : NameFits a.name
  pub group_fits : a.group < 256
  pub replica_fits : a.replica < 256
  pub ground_fits : GroundFits a.ground
  pub mark_fits : length a.mark ≡ m
  pub small : m ≤ largest_mark
  pub few : length a.reads ≤ most_values
  pub fit : AllByRecursion Fits64 a.reads

-- the fields before the mark, the ground as its byte
abbrev pub head_bytes : Head → List ℕ
head_bytes h = name_bytes h.name ++ (h.group ∷ h.replica ∷ vote_byte h.vote ∷ state_byte h.state ∷ h.ground ∷ [])

-- the bytes of a head fit
pub record HeadFits (h : Head) : Type 0 where
  pub name_fits : NameFits h.name
  pub group_fits : h.group < 256
  pub replica_fits : h.replica < 256
  pub ground_fits : h.ground < 256

-- those fields of an answer
abbrev pub head_of : AnswerModel → Head
head_of a =
    record {
      name = a.name;
      group = a.group;
      replica = a.replica;
      vote = a.vote;
      state = a.state;
      ground = ground_byte a.ground;
    }

-- how many values there are, and the values
abbrev pub values_bytes : List ℕ → List ℕ
values_bytes vs = length vs ∷ flat_map bytes64 vs

-- the fields before the mark, the mark, the reads, and at ground 2 the blocker
abbrev pub answer_contents : AnswerModel → List ℕ
answer_contents a = head_bytes (head_of a) ++ (a.mark ++ (values_bytes a.reads ++ ground_end a.ground))

-- answers with a mark of m bytes, as a kind of message
abbrev pub answer_format : ℕ → Format AnswerModel
answer_format m = record { kind = answer_kind; Fits = AnswerFits m; contents = answer_contents }

-- the writing of the code's answer
abbrev pub answer_text : Answer → List ℕ
answer_text a = written (answer_format (length (mark_bytes a.mark))) (answer_model a)

-- at most 16 values
abbrev pub ValuesFit : List ℕ → Type 0
ValuesFit vs = (length vs ≤ most_values) × AllByRecursion Fits64 vs

-- bs begins with the values that were read, and the rest follows; or it begins with no values
abbrev pub FirstValues : List ℕ → Option (BoundedList ℕ most_values × Bor (List ℕ)) → Type 0
FirstValues bs (Some p) = ValuesFit (listed p.0) × (bs ≡ values_bytes (listed p.0) ++ p.1.now)
FirstValues bs None = (vs rest : List ℕ) → ValuesFit vs → bs ≢ values_bytes vs ++ rest
