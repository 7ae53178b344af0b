-- The plain register: one copy of the rows of all groups, fed whole transactions, one at a time.
use Rattle.std.specs.Prelude.{◌≡◌, true, List, [], ◌∷◌}
use Rattle.std.proofs.Math.Option.{Option, some}
use Rattle.protocol.specs.Kinds.{Kinds, Value}
use Rattle.protocol.specs.Transactions.{Txn, Names, written}
use Rattle.protocol.specs.Replicas.{System, rows_of}

module _ {K : Kinds} where
  -- it takes t: every key that t names has a row, and every compare of t is equal; it would refuse any other
  pub record Takes (t : Txn K) (rows : K.Key → Option Value) : Type 0 where
    pub rowed : (k : K.Key) → Names t k → (v : Value) × (rows k ≡ some v)
    pub equal : (k : K.Key) (v : Value) → t.compares k v ≡ true → rows k ≡ some v

  -- its rows after the transactions of a list, newest first, if it takes each of them: from the rows at set-up, their
  -- writes
  abbrev pub register : System K → List (Txn K) → K.Key → Option Value
  register S [] k = rows_of S (S.set.home k) [] k
  register S (t ∷ ts) k = written (t.writes k) (register S ts k)
