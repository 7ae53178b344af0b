-- A name has one writing, and what is read of bytes that begin with a name.
use Rattle.std.proofs.Common.{◌≡◌, ℕ, Bool, true, false, eqb, List, [], ◌∷◌, ◌++◌, length, sym, ap, ◌∙◌, append-nil, arith, true-eqb, false-eqb}
use Rattle.std.specs.Bool.{then_some}
use Rattle.envelope.specs.Formats.{ReadsContents}
use Rattle.envelope.specs.declared.name.Name.{Name}
use Rattle.wire.specs.Fields.{NameFits, name_bytes}
use Rattle.wire.specs.Proposals.{proposal_format, proposed}
use Rattle.wire.proofs.SameFront.{same_front}

pub same_name : (x y : Name) (s t : List ℕ) → NameFits x → NameFits y → name_bytes x ++ s ≡ name_bytes y ++ t
    → (x ≡ y) × (s ≡ t)
same_name x y s t f g e =
    let h = same_front x.bytes y.bytes s t (f ∙ sym g) e in
    (ap (λ bs. record { bytes = bs }) h.0, h.1)

-- a name, and nothing after it
all_of : (bs : List ℕ) (x : Name) (rest : List ℕ) → bs ≡ name_bytes x ++ rest → length rest ≡ 0 → bs ≡ name_bytes x
all_of bs x [] e l = e ∙ append-nil (name_bytes x)
all_of bs x (b ∷ rest) e l = absurd (omega arith)

-- the name that bs begins with is what bs reads as where nothing follows it
pub name_alone : (bs : List ℕ) (x : Name) (rest : List ℕ) → NameFits x → bs ≡ name_bytes x ++ rest → (b : Bool)
    → b ≡ eqb (length rest) 0 → ReadsContents proposal_format proposed bs (then_some b x)
name_alone bs x rest fits e true is = (fits, all_of bs x rest e (true-eqb _ 0 is))
name_alone bs x rest fits e false is = λ y f w.
    false-eqb _ 0 is (ap length (same_name x y rest [] fits f (sym e ∙ w ∙ sym (append-nil (name_bytes y)))).1)
