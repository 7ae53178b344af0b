-- Honest replicas and quorums; what a certificate shows, and when it is valid.
use Rattle.std.specs.Prelude.{◌≡◌, suc, ◌+◌, ◌<◌, ◌≤◌, true, false, List, length}
use Rattle.std.proofs.Math.Option.{some}
use Rattle.protocol.specs.Kinds.{Kinds, Group, Replica}
use Rattle.protocol.specs.Lists.{In, Distinct}
use Rattle.protocol.specs.Transactions.{Vote, commit, abort, Txn}
use Rattle.protocol.specs.Certificates.{Entry, Certificate, Rising, from}
use Rattle.protocol.specs.Settings.{Setting}
use Rattle.protocol.specs.Conflicts.{Touches}

module _ {K : Kinds} where
  -- r is an honest replica of g
  abbrev pub HonestAt : Setting K → Group → Replica → Type 0
  HonestAt W g r = (r < W.replicas) × (W.honest g r ≡ true)

  -- in the group of any key, at most f replicas are faulty
  abbrev pub FewFaulty : Setting K → Type 0
  FewFaulty W =
      (k : K.Key) (rs : List Replica) → Distinct rs →
      ((r : Replica) → In r rs → (r < W.replicas) × (W.honest (W.home k) r ≡ false)) → length rs ≤ W.faults

  -- a group has at least 2f + 1 replicas
  abbrev pub Majority : Setting K → Type 0
  Majority W = W.faults + suc W.faults ≤ W.replicas

  -- m is a certificate with a genuine mark of the replica r of g under the vote v on x
  pub record Bears (W : Setting K) (m : K.Message) (g : Group) (r : Replica) (v : Vote) (x : K.Name) : Type 0 where
    pub certificate : Certificate K
    pub reads : W.certificate m ≡ some certificate
    pub named : certificate.name ≡ x
    pub voted : certificate.vote ≡ v
    pub entry : Entry K.Mark
    pub stands : In entry certificate.entries
    pub group : entry.group ≡ g
    pub replica : entry.replica ≡ r
    pub genuine : W.genuine x v entry ≡ true

  -- m bears such marks of more than f replicas of g
  pub record Quorum (W : Setting K) (m : K.Message) (g : Group) (v : Vote) (x : K.Name) : Type 0 where
    pub replicas : List Replica
    pub distinct : Distinct replicas
    pub there : (r : Replica) → In r replicas → r < W.replicas
    pub many : W.faults < length replicas
    pub marked : (r : Replica) → In r replicas → Bears W m g r v x

  -- m shows that every group that t names votes to commit it
  abbrev pub CommitQuorums : Setting K → K.Message → Txn K → Type 0
  CommitQuorums W m t = (g : Group) → Touches W t g → Quorum W m g commit t.name

  -- m shows that a group that t names votes to abort it
  abbrev pub AbortQuorum : Setting K → K.Message → Txn K → Type 0
  AbortQuorum W m t = (g : Group) × Touches W t g × Quorum W m g abort t.name

  -- commit: just f + 1 entries of each group that t names, and no other; abort: just f + 1, all of one such group
  abbrev pub Spread : Setting K → Txn K → Vote → List (Entry K.Mark) → Type 0
  Spread W t commit es =
      ((e : Entry K.Mark) → In e es → Touches W t e.group) ×
      ((g : Group) → Touches W t g → length (from g es) ≡ suc W.faults)
  Spread W t abort es =
      (g : Group) × Touches W t g × ((e : Entry K.Mark) → In e es → e.group ≡ g) × (length es ≡ suc W.faults)

  -- c is a valid certificate for t
  pub record Valid (W : Setting K) (t : Txn K) (c : Certificate K) : Type 0 where
    pub named : c.name ≡ t.name
    pub rises : Rising c.entries
    pub marked : (e : Entry K.Mark) → In e c.entries →
        (e.replica < W.replicas) × (W.genuine c.name c.vote e ≡ true)
    pub spread : Spread W t c.vote c.entries
