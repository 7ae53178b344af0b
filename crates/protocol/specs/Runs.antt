-- Runs: what has happened so far, newest first, and what it has come to. `Since past run` says that `past` is a
-- moment of
-- the run: the run is what it was then, with what happened after it in front.
use Rattle.std.specs.Prelude.{◌≡◌, ℕ, zero, suc, min, cond, ◌&&◌, List, [], ◌∷◌, ◌++◌, length, take, ◌==◌}
use Rattle.std.proofs.Math.Option.{Option, some}
use Rattle.protocol.specs.Kinds.{Kinds, Group, Replica, Value}
use Rattle.protocol.specs.Lists.{In}
use Rattle.protocol.specs.Transactions.{Txn}
use Rattle.protocol.specs.Replicas.{Status, System, status_of, rows_of}

-- a message is posted to a group, a replica of a group is given its next message, or anything else happens
pub data Event (K : Kinds) : Type 0 where
  post : Group → K.Message → Event K
  deliver : Group → Replica → Event K
  other : Event K

-- newest first
abbrev pub Run : Kinds → Type 0
Run K = List (Event K)

module _ {K : Kinds} where
  -- the messages posted to g, oldest first
  abbrev pub posts : Run K → Group → List K.Message
  posts [] g = []
  posts (post h m ∷ run) g = cond (h == g) (posts run g ++ (m ∷ [])) (posts run g)
  posts (deliver h r ∷ run) g = posts run g
  posts (other ∷ run) g = posts run g

  -- how many of them the replica r of g has passed: a delivery moves it on by one, if a message waits
  abbrev pub place : Run K → Group → Replica → ℕ
  place [] g r = zero
  place (post h m ∷ run) g r = place run g r
  place (deliver h q ∷ run) g r =
      cond (h == g && q == r) (min (suc (place run g r)) (length (posts run g))) (place run g r)
  place (other ∷ run) g r = place run g r

  -- those messages
  abbrev pub passed : Run K → Group → Replica → List K.Message
  passed run g r = take (place run g r) (posts run g)

  -- the status of x at the replica r of g, and its row at k
  abbrev pub status_at : System K → Run K → Group → Replica → K.Name → Status K
  status_at S run g r x = status_of S g (passed run g r) x

  abbrev pub row_at : System K → Run K → Group → Replica → K.Key → Option Value
  row_at S run g r k = rows_of S g (passed run g r) k

  -- the transaction t was posted to g
  abbrev pub Posted : System K → Run K → Group → Txn K → Type 0
  Posted S run g t = (m : K.Message) × In m (posts run g) × (S.set.body m ≡ some t)
