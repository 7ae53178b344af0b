-- For every format: a candidate and a test that suit it read what the relation says.
use Rattle.std.proofs.Common.{◌≡◌, ℕ, ◌≤◌, Bool, true, false, leb, List, Some, None, Ok, Err, Decides, Option, Result, sym, refl, ap, ◌∙◌, subst, arith}
use Rattle.std.proofs.lemmas.Slice.Eq.{bytes_eq-Decides}
use Rattle.std.proofs.lemmas.Bool.{and_from, and_parts, cond-false, cond-true, le-leb, leb-true}
use Rattle.envelope.specs.Formats.{Format, Reads, Writing, written}
use Rattle.envelope.specs.declared.fault.ReadFault.{ReadFault}
use Rattle.readings.specs.Readings.{SameReading, is_short, is_writing, read_as, said}

pub decides_leb : (a b : ℕ) → Decides (leb a b) (a ≤ b)
decides_leb a b = (leb-true a b, le-leb a b)

-- a test decides that it is true
pub decides_self : (t : Bool) → Decides t (t ≡ true)
decides_self t = ((λ e. e), λ e. e)

-- where nothing can have been read, nothing was
pub nothing_read : {X : Type 0} (o : Option X) → ((x : X) → o ≡ Some x → ⊥) → o ≡ None
nothing_read (Some x) none = absurd (none x refl)
nothing_read None none = refl

-- the test decides what is well formed, and the candidate of a writing is what was written
pub record Suits {X : Type 0} (F : Format X) (fits : X → Bool) (candidate : List ℕ → X) : Type 0 where
  pub decides : (x : X) → Decides (fits x) (F.Fits x)
  pub back : (x : X) → F.Fits x → candidate (written F x) ≡ x

module _ {X : Type 0} (F : Format X) (fits : X → Bool) (candidate : List ℕ → X) (suits : Suits F fits candidate) where
  writing_passes : (bs : List ℕ) (x : X) → Writing F bs x → is_writing F fits bs x ≡ true
  writing_passes bs x w =
      and_from _ _ ((suits.decides x).1 w.fits)
      (and_from _ _ (le-leb _ _ w.short) ((bytes_eq-Decides (written F x) bs).1 (sym w.whole)))

  passes_writing : (bs : List ℕ) (x : X) → is_writing F fits bs x ≡ true → Writing F bs x
  passes_writing bs x test =
      let parts = and_parts (fits x) _ test in
      let more = and_parts (is_short (F.contents x)) _ parts.1 in
      record {
        fits = (suits.decides x).0 parts.0;
        short = leb-true _ _ more.0;
        whole = sym ((bytes_eq-Decides (written F x) bs).0 more.1);
      }

  reads_writings : (bs : List ℕ) (x : X) → Writing F bs x → read_as F fits candidate bs ≡ Some x
  unfolding read_as
  reads_writings bs x w =
      let same : candidate bs ≡ x = ap candidate w.whole ∙ suits.back x w.fits in
      cond-true _ _ _ (ap (is_writing F fits bs) same ∙ writing_passes bs x w) ∙ ap Some same

  reads_only : (bs : List ℕ) (x : X) → read_as F fits candidate bs ≡ Some x → Writing F bs x
  unfolding read_as
  reads_only bs x e = at (is_writing F fits bs (candidate bs)) refl where
    at : (t : Bool) → is_writing F fits bs (candidate bs) ≡ t → Writing F bs x
    at true is =
        let some : Some (candidate bs) ≡ Some x = sym (cond-true _ _ _ is) ∙ e in
        let same : candidate bs ≡ x = cc in
        subst (Writing F bs) same (passes_writing bs (candidate bs) is)
    at false is =
        let none : None ≡ Some x = sym (cond-false _ _ _ is) ∙ e in
        let z : ◌≡◌ {A = ℕ} 0 1 = cc in
        absurd (omega arith)

  reads_code : {C : Type 0} (model : C → X) (bs : List ℕ) (r : Result C ReadFault) → Reads F model bs r
      → read_as F fits candidate bs ≡ said model r
  reads_code model bs (Ok c) w = reads_writings bs (model c) w
  reads_code model bs (Err f) none = nothing_read _ (λ x e. none.1 x (reads_only bs x e))

  pub same_reading : {C : Type 0} (model : C → X) → SameReading F model (read_as F fits candidate)
  same_reading model = record { writings = reads_writings; only = reads_only; code = reads_code model }
