-- Agreement: where a commit certificate stands, no honest replica declines or rolls back.
use Rattle.std.proofs.Common.{◌≡◌, ap, subst}
use mathlib.Core.Bool.{false≢true}
use mathlib.Core.Option.{some}
use Rattle.protocol.specs.Kinds.{Kinds, Group, Replica}
use Rattle.protocol.specs.Lists.{In}
use Rattle.protocol.specs.Transactions.{commit, abort, Txn}
use Rattle.protocol.specs.Conflicts.{Touches}
use Rattle.protocol.specs.Replicas.{committed, rolled_back, declined, vote_of, System}
use Rattle.protocol.specs.Quorums.{HonestAt, CommitQuorums, AbortQuorum}
use Rattle.protocol.specs.Steps.{Laws}
use Rattle.protocol.specs.Runs.{Run, posts, place, status_at, Posted}
use Rattle.protocol.specs.Assumptions.{OneBody}
use Rattle.protocol.specs.Agreement.{Agreement}
use Rattle.protocol.proofs.Statuses.{same_vote}
use Rattle.protocol.proofs.Runs.{origin_at, Votes, votes}

-- t was posted, and so was a commit certificate for it
pub record Certified {K : Kinds} (S : System K) (run : Run K) (t : Txn K) : Type 0 where
  pub home : Group
  pub posted : Posted S run home t
  pub board : Group
  pub message : K.Message
  pub stands : In message (posts run board)
  pub quorums : CommitQuorums S.set message t

module _ {K : Kinds} (S : System K) (laws : Laws S) (run : Run K) (marked : Votes S run) (one : OneBody S run) where
  pub certified : (t : Txn K) (g : Group) (r : Replica) → Posted S run g t →
      status_at S run g r t.name ≡ committed → Certified S run t
  certified t g r p e =
      let o = origin_at S laws run g r t.name _ e in
      record {
        home = g;
        posted = p;
        board = g;
        message = o.3.0;
        stands = o.3.1;
        quorums = subst (CommitQuorums S.set o.3.0) (one g g o.0 t o.2 p o.1) o.3.2;
      }

  module _ (t : Txn K) (c : Certified S run t) (g : Group) where
    -- in each group that t names, an honest replica has voted to commit it
    pub voted : Touches S.set t g →
        (r : Replica) × HonestAt S.set g r × (vote_of (status_at S run g r t.name) ≡ some commit)
    voted n = marked c.board c.message c.stands g n.0 n.1 commit t.name (c.quorums g n)

    pub no_abort : (r : Replica) → Touches S.set t g → vote_of (status_at S run g r t.name) ≡ some abort → ⊥
    no_abort r n e =
        let v = voted n in
        let ca =
        same_vote S laws g (posts run g) (place run g v.0) (place run g r) t.name commit abort v.2 e in
        false≢true (cc)

    pub not_declined : (r : Replica) → Touches S.set t g → status_at S run g r t.name ≡ declined → ⊥
    not_declined r n e = no_abort r n (ap vote_of e)

  pub not_rolled_back : (t : Txn K) → Certified S run t → (g : Group) (r : Replica) →
      status_at S run g r t.name ≡ rolled_back → ⊥
  not_rolled_back t c g r e =
      let o = origin_at S laws run g r t.name _ e in
      let a = subst (AbortQuorum S.set o.3.0) (one g c.home o.0 t o.2 c.posted o.1) o.3.2 in
      let v = marked g o.3.0 o.3.1 a.0 a.1.0 a.1.1 abort t.name a.2 in
      no_abort t c a.0 v.0 a.1 v.2

pub agreement : (K : Kinds) → Agreement K
agreement K S laws few run a t (h, q, c) g r n hon =
    let marked = votes S laws few run a.unforged in
    let k = certified S laws run marked a.one_body t h q c.posted c.done in
    (not_declined S laws run marked a.one_body t k g r n, not_rolled_back S laws run marked a.one_body t k g r)
