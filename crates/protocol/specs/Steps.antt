-- The laws of one step: what a message can do to a replica of g, and what it must do.
use Rattle.std.specs.Prelude.{◌≡◌, false, ◌≢◌, List, [], ◌∷◌, ◌++◌}
use mathlib.Core.HLevel.{Discrete}
use Rattle.std.proofs.Math.Option.{some}
use Rattle.protocol.specs.Kinds.{Kinds, Group}
use Rattle.protocol.specs.Transactions.{Vote, commit, abort, Txn, written}
use Rattle.protocol.specs.Certificates.{Certificate}
use Rattle.protocol.specs.Settings.{Setting}
use Rattle.protocol.specs.Conflicts.{Conflict, Passes}
use Rattle.protocol.specs.Replicas.{Status, absent, pending, committed, rolled_back, declined, View, System, status_of}
use Rattle.protocol.specs.Quorums.{CommitQuorums, AbortQuorum, Valid}

module _ {K : Kinds} where
  -- x gets the status s, and every other name keeps its own
  pub record Turns (old new : View K) (x : K.Name) (s : Status K) : Type 0 where
    pub becomes : new.status x ≡ s
    pub others : (y : K.Name) → y ≢ x → new.status y ≡ old.status y

  -- the rows at the keys of g stay
  abbrev pub RowsStay : Setting K → Group → View K → View K → Type 0
  RowsStay W g old new = (k : K.Key) → W.home k ≡ g → new.rows k ≡ old.rows k

  -- the rows at the keys of g take the writes of t
  abbrev pub RowsTake : Setting K → Group → View K → View K → Txn K → Type 0
  RowsTake W g old new t = (k : K.Key) → W.home k ≡ g → new.rows k ≡ written (t.writes k) (old.rows k)

  -- what a message m can do
  pub data Change (W : Setting K) (g : Group) (old : View K) (m : K.Message) (new : View K) : Type 0 where
    -- nothing
    stays : ((x : K.Name) → new.status x ≡ old.status x) → RowsStay W g old new → Change W g old m new
    -- a body with a new name, in conflict with nothing that is pending, passes its checks and is pending
    enters : (t : Txn K) → W.body m ≡ some t → old.status t.name ≡ absent →
        ((u : Txn K) → old.status u.name ≡ pending u → Conflict W g t u → ⊥) → Passes W g t old.rows →
        Turns old new t.name (pending t) → RowsStay W g old new → Change W g old m new
    -- a new name is declined
    declines : (x : K.Name) → old.status x ≡ absent →
        Turns old new x declined → RowsStay W g old new → Change W g old m new
    -- what is pending is committed, on the votes of every group that it names
    commits : (t : Txn K) → old.status t.name ≡ pending t → CommitQuorums W m t →
        Turns old new t.name committed → RowsTake W g old new t → Change W g old m new
    -- what is pending is rolled back, on the votes of a group that it names
    rolls_back : (t : Txn K) → old.status t.name ≡ pending t → AbortQuorum W m t →
        Turns old new t.name rolled_back → RowsStay W g old new → Change W g old m new

  -- the laws of a system: names can be told apart, every name is absent at the start, and messages do what they can
  pub record Laws (S : System K) : Type 0 where
    pub names : Discrete K.Name
    pub starts : (g : Group) (x : K.Name) → status_of S g [] x ≡ absent
    pub moves : (g : Group) (l : List K.Message) (m : K.Message) →
        Change S.set g (S.view g l) m (S.view g (l ++ (m ∷ [])))

  -- a proposal to abort makes its name known, if the book has room
  abbrev pub Heard : Setting K → View K → K.Message → View K → Type 0
  Heard W old m new = (x : K.Name) → W.proposal m ≡ some x → old.full ≡ false → new.status x ≢ absent

  -- the status that a certificate of this vote leads to
  abbrev pub end_of : Vote → Status K
  end_of commit = committed
  end_of abort = rolled_back

  -- a valid certificate ends what is pending, as its vote says
  abbrev pub Settled : Setting K → View K → K.Message → View K → Type 0
  Settled W old m new =
      (t : Txn K) (c : Certificate K) → W.certificate m ≡ some c → Valid W t c → old.status t.name ≡ pending t →
      new.status t.name ≡ end_of c.vote

  -- the laws of progress: what messages must do
  pub record ProgressLaws (S : System K) : Type 0 where
    pub hears : (g : Group) (l : List K.Message) (m : K.Message) →
        Heard S.set (S.view g l) m (S.view g (l ++ (m ∷ [])))
    pub settles : (g : Group) (l : List K.Message) (m : K.Message) →
        Settled S.set (S.view g l) m (S.view g (l ++ (m ∷ [])))
