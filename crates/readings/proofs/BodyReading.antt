-- Bodies are read by the function as by the relation.
use Rattle.std.proofs.Common.{◌≡◌, ℕ, List, ◌++◌, Decides, refl, ap, ap₂}
use Rattle.std.specs.List.{list_all}
use Rattle.std.proofs.lemmas.Bool.Decides.{Decides-and, Decides-like, Decides-ltb}
use Rattle.std.proofs.ByRecursion.{Decides-by_and}
use Rattle.bodies.specs.Bodies.{BodyFits, BodyModel, body_format, body_model}
use Rattle.bodies.specs.Operations.{OperationFits, operation_bytes, writes_apart}
use Rattle.bodies.specs.declared.operation.Operation.{Operation}
use Rattle.bodies.specs.declared.operation.Operation.TheVariants.{Read, Write, Compare}
use Rattle.envelope.specs.Formats.{written}
use Rattle.readings.specs.Bodies.{body_candidate, body_of, first_operation, fits_body, fits_operation}
use Rattle.readings.specs.Readings.{SameReading}
use Rattle.readings.proofs.PartsBack.{in_order_back, number_back}
use Rattle.readings.proofs.Readings.{Suits, decides_leb, decides_self, same_reading}

decides_operation : (o : Operation) → Decides (fits_operation o) (OperationFits o)
decides_operation (Read k) = Decides-ltb k _
decides_operation (Write k v) = Decides-and _ _ (Decides-ltb k _) (Decides-ltb v _)
decides_operation (Compare k v) = Decides-and _ _ (Decides-ltb k _) (Decides-ltb v _)

decides_body : (b : BodyModel) → Decides (fits_body b) (BodyFits b)
decides_body b =
    let os = b.operations in
    let all = list_all fits_operation in
    let each = Decides-by_and fits_operation OperationFits all decides_operation refl (λ _ _. refl) os in
    Decides-like _
    (λ p. record { nonce_fits = p.0; some = p.1.0; few = p.1.1.0; fit = p.1.1.1.0; apart = p.1.1.1.1 })
    (λ f. (f.nonce_fits, (f.some, (f.few, (f.fit, f.apart)))))
    (Decides-and _ _ (Decides-ltb b.nonce _)
    (Decides-and _ _ (decides_leb 1 _)
    (Decides-and _ _ (decides_leb _ _) (Decides-and _ _ each (decides_self (writes_apart os))))))

operation_back : (o : Operation) (t : List ℕ) → OperationFits o → first_operation (operation_bytes o ++ t) ≡ o
operation_back (Read k) t fits = ap Read (number_back 4 k fits)
operation_back (Write k v) t fits = ap₂ Write (number_back 4 k fits.0) (number_back 8 v fits.1)
operation_back (Compare k v) t fits = ap₂ Compare (number_back 4 k fits.0) (number_back 8 v fits.1)

body_back : (b : BodyModel) → BodyFits b → body_candidate (written body_format b) ≡ b
unfolding written
body_back b fits =
    let nonce = number_back 8 b.nonce fits.nonce_fits in
    let operations =
    in_order_back OperationFits operation_bytes first_operation operation_back b.operations fits.fit in
    λ i. record { nonce = nonce i; operations = operations i }

suits : Suits body_format fits_body body_candidate
suits = record { decides = decides_body; back = body_back }

pub body_reading : SameReading body_format body_model body_of
unfolding body_of
body_reading = same_reading body_format fits_body body_candidate suits body_model
