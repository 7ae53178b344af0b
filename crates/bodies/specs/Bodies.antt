-- A body: what it says, when it is well formed, and how it is written.
use Rattle.std.specs.Prelude.{◌≡◌, ℕ, ◌≤◌, true, List, ◌∷◌, ◌++◌, length, Some, None, Ok, Err, Option, Result, ◌≢◌}
use Rattle.std.specs.List.{flat_map, AllByRecursion}
use Rattle.octets.specs.Numbers.{Fits64, bytes64}
use Rattle.envelope.specs.Formats.{Format}
use Rattle.envelope.specs.Messages.{body_kind}
use Rattle.lists.specs.Lists.{listed}
use Rattle.bodies.specs.Operations.{OperationFits, operation_bytes, writes_apart}
use Rattle.bodies.specs.declared.body.Body.{Body}
use Rattle.envelope.specs.declared.fault.ReadFault.{ReadFault}
use Rattle.envelope.specs.declared.fault.ReadFault.TheVariants.{Malformed}
use Rattle.bodies.specs.declared.operation.Operation.{Operation}
use Rattle.lists.specs.declared.BoundedList.{BoundedList}

-- the most operations that a body has
abbrev pub most_operations : ℕ
most_operations = 16

-- what a body says
pub record BodyModel : Type 0 where
  pub nonce : ℕ
  pub operations : List Operation

-- what the code's body says
abbrev pub body_model : Body → BodyModel
body_model b = record { nonce = b.nonce; operations = listed b.operations }

-- one to sixteen operations, of which no two write one key
pub record BodyFits (b : BodyModel) : Type 0 where
  pub nonce_fits : Fits64 b.nonce
  pub some : 1 ≤ length b.operations
  pub few : length b.operations ≤ most_operations
  pub fit : AllByRecursion OperationFits b.operations
  pub apart : writes_apart b.operations ≡ true

-- the nonce, how many operations there are, and the operations
abbrev pub contents_of : ℕ → List Operation → List ℕ
contents_of nonce os = bytes64 nonce ++ (length os ∷ flat_map operation_bytes os)

abbrev pub body_contents : BodyModel → List ℕ
body_contents b = contents_of b.nonce b.operations

-- bodies as a kind of message
abbrev pub body_format : Format BodyModel
body_format = record { kind = body_kind; Fits = BodyFits; contents = body_contents }

-- n operations, which bs is the writing of; or bs is the writing of no n operations
abbrev pub ReadsOperations : ℕ → List ℕ → Option (BoundedList Operation most_operations) → Type 0
ReadsOperations n bs (Some o) =
    (length (listed o) ≡ n) × AllByRecursion OperationFits (listed o) × (bs ≡ flat_map operation_bytes (listed o))
ReadsOperations n bs None =
    (os : List Operation) → length os ≡ n → AllByRecursion OperationFits os → bs ≢ flat_map operation_bytes os

-- the body that is made of these parts; where it would not be well formed there is none
abbrev pub Made : BodyModel → Result Body ReadFault → Type 0
Made m (Ok b) = body_model b ≡ m
Made m (Err f) = (f ≡ Malformed) × (BodyFits m → ⊥)
