-- What bytes read as, as a body.
use Rattle.std.specs.Prelude.{ℕ, Bool, cond, ◌&&◌, List, length, drop, Option, ◌==◌, nat_le, slice_index}
use Rattle.std.specs.List.{list_all}
use Rattle.bodies.specs.Bodies.{BodyModel, body_format, most_operations}
use Rattle.bodies.specs.Operations.{operation_bytes, writes_apart}
use Rattle.bodies.specs.declared.operation.Operation.{Operation}
use Rattle.bodies.specs.declared.operation.Operation.TheVariants.{Read, Write, Compare}
use Rattle.readings.specs.Parts.{fits32, fits64, in_order, number_at}
use Rattle.readings.specs.Readings.{read_as}

-- the operation of a code, with this key and this value
abbrev pub operation_of : ℕ → ℕ → ℕ → Operation
operation_of code k v = cond (code == 1) (Read k) (cond (code == 2) (Write k v) (Compare k v))

-- the operation at the front: its code, its key and its value
abbrev pub first_operation : List ℕ → Operation
first_operation bs = operation_of (slice_index bs 0) (number_at 1 4 bs) (number_at 5 8 bs)

-- the nonce after the four first bytes, how many operations there are, and the operations
abbrev pub body_candidate : List ℕ → BodyModel
body_candidate bs =
    record { nonce = number_at 4 8 bs; operations = in_order first_operation operation_bytes (slice_index bs 12) (drop 13 bs) }

-- whether the numbers of an operation fit their bytes
abbrev pub fits_operation : Operation → Bool
fits_operation (Read k) = fits32 k
fits_operation (Write k v) = fits32 k && fits64 v
fits_operation (Compare k v) = fits32 k && fits64 v

-- whether a body is well formed
abbrev pub fits_body : BodyModel → Bool
fits_body b =
    let os = b.operations in
    fits64 b.nonce
    && (nat_le 1 (length os) && (nat_le (length os) most_operations && (list_all fits_operation os && writes_apart os)))

-- the body that bytes are the writing of
unfoldable pub body_of : List ℕ → Option BodyModel
body_of = read_as body_format fits_body body_candidate
