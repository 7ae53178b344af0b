-- The operations of a transaction: how each is written, and whether two of them write one key.
use Rattle.std.specs.Prelude.{ℕ, Bool, true, false, not, ◌&&◌, List, [], ◌∷◌, ◌++◌, ◌==◌}
use Rattle.std.specs.List.{list_any}
use Rattle.octets.specs.Numbers.{Fits32, Fits64, bytes32, bytes64}
use Rattle.bodies.specs.declared.operation.Operation.{Operation}
use Rattle.bodies.specs.declared.operation.Operation.TheVariants.{Read, Write, Compare}

-- a key is a device number of 32 bits, and is written in four bytes
abbrev pub KeyFits : ℕ → Type 0
KeyFits = Fits32

abbrev pub key_bytes : ℕ → List ℕ
key_bytes = bytes32

-- an operation is written as its code, its key and, but for a read, its value
abbrev pub operation_bytes : Operation → List ℕ
operation_bytes (Read k) = 1 ∷ key_bytes k
operation_bytes (Write k v) = 2 ∷ (key_bytes k ++ bytes64 v)
operation_bytes (Compare k v) = 3 ∷ (key_bytes k ++ bytes64 v)

-- the numbers of an operation fit their bytes
abbrev pub OperationFits : Operation → Type 0
OperationFits (Read k) = KeyFits k
OperationFits (Write k v) = KeyFits k × Fits64 v
OperationFits (Compare k v) = KeyFits k × Fits64 v

-- the key that an operation is at
abbrev pub key_of : Operation → ℕ
key_of (Read k) = k
key_of (Write k v) = k
key_of (Compare k v) = k

-- whether an operation is a read
abbrev pub is_read : Operation → Bool
is_read (Read k) = true
is_read (Write k v) = false
is_read (Compare k v) = false

-- whether an operation is a write
abbrev pub is_write : Operation → Bool
is_write (Read k) = false
is_write (Write k v) = true
is_write (Compare k v) = false

-- whether the operation writes the key
abbrev pub writes_to : Operation → ℕ → Bool
writes_to (Read k) key = false
writes_to (Write k v) key = k == key
writes_to (Compare k v) key = false

-- whether one of the operations writes the key
abbrev pub writes_key : List Operation → ℕ → Bool
writes_key os key = list_any (λ o. writes_to o key) os

-- whether no operation of os writes the key that o writes
abbrev pub is_alone : Operation → List Operation → Bool
is_alone (Read k) os = true
is_alone (Write k v) os = not (writes_key os k)
is_alone (Compare k v) os = true

-- whether no key has two writes
abbrev pub writes_apart : List Operation → Bool
writes_apart [] = true
writes_apart (o ∷ os) = is_alone o os && writes_apart os
