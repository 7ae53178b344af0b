-- That the four kinds of message are told apart by the kind byte.
use Rattle.std.specs.Prelude.{◌≡◌, ℕ, ◌+◌, ◌≤◌, List, length, Some, None, Option, slice_index_or}
use Rattle.envelope.specs.Messages.{answer_kind, body_kind, certificate_kind, proposal_kind, version}
use Rattle.readings.specs.Answers.{answer_of}
use Rattle.readings.specs.Bodies.{body_of}
use Rattle.readings.specs.Certificates.{certificate_of}
use Rattle.readings.specs.Proposals.{proposal_of}

-- bs begins as a message of a kind does, whatever its length bytes say
pub record HasKind (kind : ℕ) (bs : List ℕ) : Type 0 where
  pub long : 4 ≤ length bs
  pub first : slice_index_or bs 2 0 ≡ version
  pub next : slice_index_or bs 3 0 ≡ kind

-- only what begins so is read
abbrev pub OfKind : {X : Type 0} → ℕ → (List ℕ → Option X) → Type 0
OfKind kind read = (bs : List ℕ) → (HasKind kind bs → ⊥) → read bs ≡ None

-- how many things were read, none or one
abbrev pub count : {X : Type 0} → Option X → ℕ
count None = 0
count (Some x) = 1

-- each reading is of its kind, so that bytes are read as a message of one kind at most, whatever the lengths of marks
pub record KindsApart (m n : ℕ) : Type 0 where
  pub body : OfKind body_kind body_of
  pub certificate : OfKind certificate_kind (certificate_of m)
  pub proposal : OfKind proposal_kind proposal_of
  pub answer : OfKind answer_kind (answer_of n)
  pub one : (bs : List ℕ)
      → count (body_of bs) + count (certificate_of m bs) + count (proposal_of bs) + count (answer_of n bs) ≤ 1
