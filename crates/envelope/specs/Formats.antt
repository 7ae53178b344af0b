-- What it is to have one writing, to read it and to write it, for a kind of message.
use Rattle.std.specs.Prelude.{◌≡◌, ℕ, cond, List, length, Some, None, Ok, Err, Option, Result, ◌≢◌, nat_le}
use Rattle.octets.specs.Buffers.{overlaid}
use Rattle.envelope.specs.Messages.{Short, message}
use Rattle.envelope.specs.declared.fault.ReadFault.{ReadFault}
use Rattle.envelope.specs.declared.fault.ReadFault.TheVariants.{Malformed}
use Rattle.envelope.specs.declared.fault.WriteFault.{WriteFault}
use Rattle.envelope.specs.declared.fault.WriteFault.TheVariants.{ShortBuffer}

-- a kind of message: its kind byte, what is well formed, and what is written after the kind byte
pub record Format (X : Type 0) : Type 1 where
  pub kind : ℕ
  pub Fits : X → Type 0
  pub contents : X → List ℕ

-- the writing of a message
unfoldable pub written : {X : Type 0} → Format X → X → List ℕ
written F x = message F.kind (F.contents x)

-- bs is the writing of x, which is well formed
pub record Writing {X : Type 0} (F : Format X) (bs : List ℕ) (x : X) : Type 0 where
  pub fits : F.Fits x
  pub short : Short (F.contents x)
  pub whole : bs ≡ written F x

-- what was read says what bs, which stands after the kind byte, is the contents of; or bs is the contents of nothing
abbrev pub ReadsContents : {C X : Type 0} → Format X → (C → X) → List ℕ → Option C → Type 0
ReadsContents F model bs (Some c) = F.Fits (model c) × (bs ≡ F.contents (model c))
ReadsContents {C} {X} F model bs None = (x : X) → F.Fits x → bs ≢ F.contents x

-- what was read says what bs is the writing of; where bs is malformed it is the writing of nothing
abbrev pub Reads : {C X : Type 0} → Format X → (C → X) → List ℕ → Result C ReadFault → Type 0
Reads F model bs (Ok c) = Writing F bs (model c)
Reads {C} {X} F model bs (Err f) = (f ≡ Malformed) × ((x : X) → Writing F bs x → ⊥)

-- bs is a message of a kind, of whose rest this was read; or what is read of the rest of such a message is nothing
unfoldable pub Opened : {C : Type 0} → ℕ → (List ℕ → Option C → Type 0) → List ℕ → Result C ReadFault → Type 0
Opened kind read bs (Ok c) = (rest : List ℕ) × Short rest × (bs ≡ message kind rest) × read rest (Some c)
Opened kind read bs (Err f) = (f ≡ Malformed) × ((rest : List ℕ) → Short rest → bs ≡ message kind rest → read rest None)

-- how a writer of this text answers: the text's length, or that the buffer is too short for it
abbrev pub write_answer : List ℕ → List ℕ → Result ℕ WriteFault
write_answer text buffer = cond (nat_le (length text) (length buffer)) (Ok (length text)) (Err ShortBuffer)

-- what it leaves in the buffer: the text at the front, or all as it was
abbrev pub write_after : List ℕ → List ℕ → List ℕ
write_after text buffer = cond (nat_le (length text) (length buffer)) (overlaid buffer 0 text) buffer

-- two well-formed things that are written alike are the same
abbrev pub OneWriting : {X : Type 0} → Format X → Type 0
OneWriting {X} F = (a b : X) → F.Fits a → F.Fits b → written F a ≡ written F b → a ≡ b

-- reading undoes writing: bytes that are the writing of x are read as x
abbrev pub RoundTrip : {C X : Type 0} → Format X → (C → X) → Type 0
RoundTrip {C} {X} F model =
    (x : X) (bs : List ℕ) (r : Result C ReadFault) → Writing F bs x → Reads F model bs r
    → (c : C) × (r ≡ Ok c) × (model c ≡ x)
