-- The operations of a body as a transaction of the protocol.
use Rattle.std.specs.Prelude.{ℕ, Bool, false, cond, ◌&&◌, List, [], ◌∷◌, ◌==◌}
use Rattle.std.proofs.Math.Option.{Option, none, some}
use Rattle.bodies.specs.declared.operation.Operation.{Operation}
use Rattle.bodies.specs.declared.operation.Operation.TheVariants.{Read, Write, Compare}
use Rattle.envelope.specs.declared.name.Name.{Name}
use Rattle.protocol.specs.Kinds.{Kinds, kinds}
use Rattle.protocol.specs.Tests.{any}
use Rattle.protocol.specs.Transactions.{Txn}

-- the types that the protocol leaves open: names of 32 bytes, device numbers, messages as bytes, and marks as bytes
abbrev pub register : Kinds
register = kinds Name ℕ (List ℕ) (List ℕ)

-- whether an operation reads the key
abbrev pub reads_at : ℕ → Operation → Bool
reads_at key (Read k) = k == key
reads_at key (Write k v) = false
reads_at key (Compare k v) = false

-- whether an operation compares the key with the value
abbrev pub compares_at : ℕ → ℕ → Operation → Bool
compares_at key value (Read k) = false
compares_at key value (Write k v) = false
compares_at key value (Compare k v) = k == key && v == value

-- what an operation writes at the key, over what was written before it
abbrev pub write_over : ℕ → Operation → Option ℕ → Option ℕ
write_over key (Read k) before = before
write_over key (Write k v) before = cond (k == key) (some v) before
write_over key (Compare k v) before = before

-- what operations write at the key, one after the other, over what was written before them
abbrev pub writes_over : ℕ → List Operation → Option ℕ → Option ℕ
writes_over key [] before = before
writes_over key (o ∷ os) before = writes_over key os (write_over key o before)

-- the transaction of a name and operations
abbrev pub txn : Name → List Operation → Txn register
txn x os =
    record {
      name = x;
      reads = λ k. any (reads_at k) os;
      compares = λ k v. any (compares_at k v) os;
      writes = λ k. writes_over k os none;
    }
