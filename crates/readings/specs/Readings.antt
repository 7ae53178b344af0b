-- What bytes read as, as a function, and what it is that this function and the relation `Reads` say the same.
use Rattle.std.specs.Prelude.{◌≡◌, ℕ, ◌+◌, Bool, cond, ◌&&◌, List, length, Some, None, Ok, Err, Option, Result, nat_le}
use Rattle.std.specs.Str.{bytes_eq}
use Rattle.envelope.specs.Formats.{Format, Reads, Writing, written}
use Rattle.envelope.specs.Messages.{largest_message}
use Rattle.envelope.specs.declared.fault.ReadFault.{ReadFault}

-- whether a message that brings these bytes is not too long
abbrev pub is_short : List ℕ → Bool
is_short rest = nat_le (length rest + 4) largest_message

-- whether bs is the writing of x, which is well formed
abbrev pub is_writing : {X : Type 0} → Format X → (X → Bool) → List ℕ → X → Bool
is_writing F fits bs x = fits x && (is_short (F.contents x) && bytes_eq (written F x) bs)

-- a candidate is read off the bytes with no test, and they read as it where they are its writing
unfoldable pub read_as : {X : Type 0} → Format X → (X → Bool) → (List ℕ → X) → List ℕ → Option X
read_as F fits candidate bs =
    let x = candidate bs in
    cond (is_writing F fits bs x) (Some x) None

-- what the answer of a reader in code says
abbrev pub said : {C X : Type 0} → (C → X) → Result C ReadFault → Option X
said model (Ok c) = Some (model c)
said model (Err f) = None

-- a writing is read as what it is the writing of, nothing else is read, and a reader in code answers what is read
pub record SameReading {C X : Type 0} (F : Format X) (model : C → X) (read : List ℕ → Option X) : Type 0 where
  pub writings : (bs : List ℕ) (x : X) → Writing F bs x → read bs ≡ Some x
  pub only : (bs : List ℕ) (x : X) → read bs ≡ Some x → Writing F bs x
  pub code : (bs : List ℕ) (r : Result C ReadFault) → Reads F model bs r → read bs ≡ said model r
