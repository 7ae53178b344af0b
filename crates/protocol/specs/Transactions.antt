-- Transactions: what each does to rows, and the two votes on it.
use Rattle.std.specs.Prelude.{◌≡◌, Bool, true}
use Rattle.std.proofs.Math.Option.{Option, none, some}
use Rattle.protocol.specs.Kinds.{Kinds, Value}

-- a replica votes to commit a transaction or to abort it
pub data Vote : Type 0 where
  commit abort : Vote

-- its name, and for each key whether it is read, the values that it is compared with, and what is written, if anything
pub record Txn (K : Kinds) : Type 0 where
  pub name : K.Name
  pub reads : K.Key → Bool
  pub compares : K.Key → Value → Bool
  pub writes : K.Key → Option Value

module _ {K : Kinds} where
  -- t names the key k: it reads it, compares it or writes it
  pub data Names (t : Txn K) (k : K.Key) : Type 0 where
    by_read : t.reads k ≡ true → Names t k
    by_compare : (v : Value) → t.compares k v ≡ true → Names t k
    by_write : (v : Value) → t.writes k ≡ some v → Names t k

  -- t writes the key k
  abbrev pub Writes : Txn K → K.Key → Type 0
  Writes t k = (v : Value) × (t.writes k ≡ some v)

-- a row after a write, or after none
abbrev pub written : Option Value → Option Value → Option Value
written none old = old
written (some v) old = some v
