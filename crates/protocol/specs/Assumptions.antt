-- What is assumed of a run: no mark of an honest replica is forged, and no two transactions share a name.
use Rattle.std.specs.Prelude.{◌≡◌, ◌∷◌}
use Rattle.std.proofs.Math.Option.{some}
use Rattle.protocol.specs.Kinds.{Kinds, Group, Replica}
use Rattle.protocol.specs.Lists.{Since}
use Rattle.protocol.specs.Transactions.{Vote, Txn}
use Rattle.protocol.specs.Replicas.{vote_of, System}
use Rattle.protocol.specs.Quorums.{HonestAt, Bears}
use Rattle.protocol.specs.Runs.{Run, post, status_at, Posted}

module _ {K : Kinds} where
  -- a message that bears an honest replica's mark under a vote is posted only after that replica has given the vote
  abbrev pub Unforged : System K → Run K → Type 0
  Unforged S run =
      (past : Run K) (h : Group) (m : K.Message) → Since (post h m ∷ past) run →
      (g : Group) (r : Replica) (v : Vote) (x : K.Name) → HonestAt S.set g r → Bears S.set m g r v x →
      vote_of (status_at S past g r x) ≡ some v

  -- two posted transactions with one name are the same
  abbrev pub OneBody : System K → Run K → Type 0
  OneBody S run = (g h : Group) (t u : Txn K) → Posted S run g t → Posted S run h u → t.name ≡ u.name → t ≡ u

  -- both
  pub record Assumptions (S : System K) (run : Run K) : Type 0 where
    pub unforged : Unforged S run
    pub one_body : OneBody S run
