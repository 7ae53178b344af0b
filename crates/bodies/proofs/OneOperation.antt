-- An operation has one writing, and what the front of some bytes says of the operation that they begin with.
use Rattle.std.proofs.Common.{◌≡◌, ℕ, List, ◌∷◌, ◌++◌, ap, arith}
use Rattle.octets.specs.Numbers.{Fits64, bytes64}
use Rattle.octets.proofs.OneWriting.{same_number}
use Rattle.bodies.specs.Operations.{KeyFits, OperationFits, key_bytes, operation_bytes}
use Rattle.bodies.specs.declared.operation.Operation.{Operation}
use Rattle.bodies.specs.declared.operation.Operation.TheVariants.{Read, Write, Compare}

-- bs begins with no operation
abbrev pub NoOperation : List ℕ → Type 0
NoOperation bs = (o : Operation) (t : List ℕ) → OperationFits o → bs ≡ operation_bytes o ++ t → ⊥

-- bs is a code and the rest
module _ (bs : List ℕ) (code : ℕ) (rest : List ℕ) (e : bs ≡ code ∷ rest) where
  pub no_key : ((k : ℕ) (t : List ℕ) → KeyFits k → rest ≡ key_bytes k ++ t → ⊥) → NoOperation bs
  no_key h (Read k) t f w = h k t f (cc)
  no_key h (Write k v) t f w = h k (bytes64 v ++ t) f.0 (cc)
  no_key h (Compare k v) t f w = h k (bytes64 v ++ t) f.0 (cc)

  pub no_value : (k : ℕ) (after : List ℕ) → (code ≡ 1 → ⊥) → rest ≡ key_bytes k ++ after
      → ((v : ℕ) (t : List ℕ) → Fits64 v → after ≡ bytes64 v ++ t → ⊥) → NoOperation bs
  no_value k after n r h (Read k') t f w = n (cc)
  no_value k after n r h (Write k' v) t f w = h v t f.1 (cc)
  no_value k after n r h (Compare k' v) t f w = h v t f.1 (cc)

same_key : (j k : ℕ) (s t : List ℕ) → KeyFits j → KeyFits k → key_bytes j ++ s ≡ key_bytes k ++ t → (j ≡ k) × (s ≡ t)
same_key = same_number 4

pub same_value : (j k : ℕ) (s t : List ℕ) → Fits64 j → Fits64 k → bytes64 j ++ s ≡ bytes64 k ++ t → (j ≡ k) × (s ≡ t)
same_value = same_number 8

other_code : {X : Type 0} (a b : ℕ) (s t : List ℕ) → (a ≡ b → ⊥) → a ∷ s ≡ b ∷ t → X
other_code a b s t n e = absurd (n (cc))

-- no writing of an operation begins another's
pub same_operation : (x y : Operation) (s t : List ℕ) → OperationFits x → OperationFits y
    → operation_bytes x ++ s ≡ operation_bytes y ++ t → (x ≡ y) × (s ≡ t)
same_operation (Read j) (Read k) s t f g e = let h = same_key j k s t f g (cc) in (ap Read h.0, h.1)
same_operation (Read j) (Write k w) s t f g e = other_code 1 2 _ _ (omega arith) e
same_operation (Read j) (Compare k w) s t f g e = other_code 1 3 _ _ (omega arith) e
same_operation (Write j v) (Read k) s t f g e = other_code 2 1 _ _ (omega arith) e
same_operation (Write j v) (Write k w) s t f g e =
    let h = same_key j k (bytes64 v ++ s) (bytes64 w ++ t) f.0 g.0 (cc) in
    let i = same_value v w s t f.1 g.1 h.1 in
    (cc (h.0, i.0), i.1)
same_operation (Write j v) (Compare k w) s t f g e = other_code 2 3 _ _ (omega arith) e
same_operation (Compare j v) (Read k) s t f g e = other_code 3 1 _ _ (omega arith) e
same_operation (Compare j v) (Write k w) s t f g e = other_code 3 2 _ _ (omega arith) e
same_operation (Compare j v) (Compare k w) s t f g e =
    let h = same_key j k (bytes64 v ++ s) (bytes64 w ++ t) f.0 g.0 (cc) in
    let i = same_value v w s t f.1 g.1 h.1 in
    (cc (h.0, i.0), i.1)
