-- What the naming call answers.
use Rattle.std.specs.Prelude.{◌≡◌, ℕ, List}
use Rattle.bodies.specs.Naming.{IsBody, name_of}
use Rattle.envelope.specs.Faults.{read_number}
use Rattle.envelope.specs.declared.fault.ReadFault.TheVariants.{Malformed}

-- 0 and the name for a body; for anything else the number of malformed, and the output as it was
pub record NamesBody (bs before after : List ℕ) (r : ℕ) : Type 0 where
  pub named : IsBody bs → (r ≡ 0) × (after ≡ name_of bs)
  pub refused : (IsBody bs → ⊥) → (r ≡ read_number Malformed) × (after ≡ before)
