-- Ending: what is pending at an honest replica ends at all, by a proposal to abort it, a tally of the answers to that,
-- and the tally's certificate, whatever else happens in between.
use Rattle.std.specs.Prelude.{◌≡◌, false, ◌⊎◌, List, [], ◌∷◌, ◌++◌}
use Rattle.std.proofs.Math.Option.{none, some}
use Rattle.protocol.specs.Kinds.{Kinds, Group, Replica}
use Rattle.protocol.specs.Lists.{In, Since}
use Rattle.protocol.specs.Transactions.{Vote, commit, abort, Txn}
use Rattle.protocol.specs.Conflicts.{Touches, GroupsOf}
use Rattle.protocol.specs.Replicas.{Status, absent, pending, committed, rolled_back, declined, vote_of, System}
use Rattle.protocol.specs.Quorums.{HonestAt, FewFaulty, Majority}
use Rattle.protocol.specs.Steps.{Laws, ProgressLaws}
use Rattle.protocol.specs.Runs.{Run, deliver, passed, status_at}
use Rattle.protocol.specs.Assumptions.{Assumptions}
use Rattle.protocol.specs.Tallies.{Tally, Says, TallyLaws}

module _ {K : Kinds} where
  -- t is pending at an honest replica
  abbrev pub Pending : System K → Run K → Txn K → Type 0
  Pending S run t =
      (g : Group) × (r : Replica) × HonestAt S.set g r × (status_at S run g r t.name ≡ pending t)

  -- between two moments, a delivery takes the replica r of g over m
  pub record Passing (start end : Run K) (g : Group) (r : Replica) (m : K.Message) : Type 0 where
    pub at : Run K  -- the moment before the delivery
    pub after : Since start at
    pub until : Since (deliver g r ∷ at) end
    pub over : passed (deliver g r ∷ at) g r ≡ passed at g r ++ (m ∷ [])

  -- between two moments, m is passed by every honest replica of the groups that t names
  abbrev pub AllPass : System K → Run K → Run K → Txn K → K.Message → Type 0
  AllPass S start end t m =
      (g : Group) (r : Replica) → Touches S.set t g → HonestAt S.set g r → Passing start end g r m

  -- the first moves, from `past` to `mid`: the proposal to abort t is passed, and the answers to it are gathered
  pub record Asked (S : System K) (past mid : Run K) (t : Txn K) : Type 0 where
    pub proposal : K.Message
    pub proposes : S.set.proposal proposal ≡ some t.name
    pub passing : AllPass S past mid t proposal
    -- no replica that does not know the name yet has a full book then
    pub room : (g : Group) (r : Replica) (n : Touches S.set t g) (h : HonestAt S.set g r) →
        let at = (passing g r n h).at in
        status_at S at g r t.name ≡ absent → (S.view g (passed at g r)).full ≡ false
    pub groups : List Group
    pub theirs : GroupsOf S.set t groups
    pub answers : List K.Message
    -- in any order, they hold each replica's answer: the vote that it has given then, with a genuine mark
    pub each : (g : Group) (r : Replica) (n : Touches S.set t g) (h : HonestAt S.set g r) (v : Vote) →
        vote_of (status_at S (deliver g r ∷ (passing g r n h).at) g r t.name) ≡ some v →
        (m : K.Message) × In m answers × Says S.set m g r v t.name
    -- whatever else they hold forges no honest replica's mark
    pub unforged : (m : K.Message) → In m answers → (g : Group) (r : Replica) (v : Vote) → HonestAt S.set g r →
        Says S.set m g r v t.name → vote_of (status_at S mid g r t.name) ≡ some v

  -- ended by a certificate of this vote
  abbrev pub EndsAs : Vote → Status K → Type 0
  EndsAs commit s = s ≡ committed
  EndsAs abort s = (s ≡ rolled_back) ⊎ (s ≡ declined)

  -- what comes of these moves
  pub record Concludes (S : System K) (T : Tally K) (past mid : Run K) (t : Txn K)
      (q : Asked S past mid t) : Type 0 where
    -- every replica has given a vote by the time that it has passed the proposal
    pub voted : (g : Group) (r : Replica) (n : Touches S.set t g) (h : HonestAt S.set g r) →
        (v : Vote) × (vote_of (status_at S (deliver g r ∷ (q.passing g r n h).at) g r t.name) ≡ some v)
    -- the tally, fed with the answers, closes; on the way, those of honest replicas meet no number but 0 and 17
    pub certificate : K.Message
    pub closes : T.writes t.name q.groups q.answers ≡ some certificate
    pub numbers : (before after : List K.Message) (m : K.Message) → before ++ (m ∷ after) ≡ q.answers →
        T.writes t.name q.groups before ≡ none →
        (g : Group) (r : Replica) (v : Vote) → Touches S.set t g → HonestAt S.set g r →
        Says S.set m g r v t.name →
        (T.number t.name q.groups before m ≡ 0) ⊎ (T.number t.name q.groups before m ≡ 17)
    -- once its certificate is passed by every honest replica of the groups that t names, t has ended at all of them
    pub vote : Vote
    pub ends : (run : Run K) → Since mid run → Assumptions S run → AllPass S mid run t certificate →
        (g : Group) (r : Replica) → Touches S.set t g → HonestAt S.set g r →
        EndsAs vote (status_at S run g r t.name)

-- After the first moves on a transaction that was pending, the tally closes, and its certificate ends the transaction.
abbrev pub Ending : Kinds → Type 0
Ending K =
    (S : System K) (T : Tally K) → Laws S → ProgressLaws S → TallyLaws S.set T → FewFaulty S.set →
    Majority S.set →
    (past mid : Run K) → Since past mid → (t : Txn K) → Pending S past t → (q : Asked S past mid t) →
    Concludes S T past mid t q
