-- The moves that end a transaction can be made.
use Rattle.std.specs.Prelude.{◌≡◌, ℕ, suc, ◌+◌, ◌-◌, ◌≤◌, false, cond, ◌&&◌, List, [], ◌∷◌, length, ◌==◌}
use Rattle.std.proofs.Math.Option.{none, some}
use Rattle.protocol.specs.Kinds.{Kinds, Group, Replica}
use Rattle.protocol.specs.Lists.{Distinct, Since}
use Rattle.protocol.specs.Transactions.{Vote, Txn}
use Rattle.protocol.specs.Certificates.{Certificate}
use Rattle.protocol.specs.Settings.{Setting}
use Rattle.protocol.specs.Conflicts.{Touches, GroupsOf}
use Rattle.protocol.specs.Replicas.{System}
use Rattle.protocol.specs.Quorums.{HonestAt, FewFaulty, Majority}
use Rattle.protocol.specs.Steps.{Laws, ProgressLaws}
use Rattle.protocol.specs.Runs.{Run, post, deliver, other, posts, place}
use Rattle.protocol.specs.Assumptions.{Assumptions}
use Rattle.protocol.specs.Tallies.{Tally, Says, TallyLaws}
use Rattle.protocol.specs.Ending.{Pending, Passing, AllPass, Asked}

-- how many deliveries to the replica r of g there were
abbrev pub deliveries : {K : Kinds} → Run K → Group → Replica → ℕ
deliveries [] g r = 0
deliveries (post h m ∷ run) g r = deliveries run g r
deliveries (deliver h q ∷ run) g r = cond (h == g && q == r) (suc (deliveries run g r)) (deliveries run g r)
deliveries (other ∷ run) g r = deliveries run g r

-- Whatever else happens, a replica has passed a message after so many deliveries as messages wait once it is posted.
abbrev pub PostedIsPassed : Kinds → Type 0
PostedIsPassed K =
    (run : Run K) (g : Group) (r : Replica) (m : K.Message) (later : Run K) → Since (post g m ∷ run) later →
    deliveries run g r + suc (length (posts run g) - place run g r) ≤ deliveries later g r → Passing run later g r m

module _ {K : Kinds} where
  -- proposals and answers of honest replicas can be written, each as a message that is nothing else; no certificate
  -- is a body
  pub record Writable (W : Setting K) : Type 0 where
    pub proposal : (x : K.Name) →
        (m : K.Message) × (W.proposal m ≡ some x) × (W.body m ≡ none) × (W.certificate m ≡ none)
    pub answer : (g : Group) (r : Replica) (v : Vote) (x : K.Name) → HonestAt W g r → (m : K.Message) × Says W m g r v x
    pub apart : (m : K.Message) (c : Certificate K) → W.certificate m ≡ some c → W.body m ≡ none

  -- the moves, made from `past` on
  pub record Made (S : System K) (T : Tally K) (past : Run K) (t : Txn K) : Type 0 where
    pub mid : Run K
    pub since : Since past mid
    pub asked : Asked S past mid t
    pub certificate : K.Message
    pub closes : T.writes t.name asked.groups asked.answers ≡ some certificate
    pub run : Run K
    pub later : Since mid run
    pub assumptions : Assumptions S run
    pub passing : AllPass S mid run t certificate

-- From any moment at which t is pending, the run can go on so that the moves are made and the assumptions kept, if
-- books
-- have room for a name once all is passed that is posted by then.
abbrev pub MovesCanBeMade : Kinds → Type 0
MovesCanBeMade K =
    (S : System K) (T : Tally K) → Laws S → ProgressLaws S → TallyLaws S.set T → FewFaulty S.set →
    Majority S.set →
    Writable S.set →
    (past : Run K) → Assumptions S past → (t : Txn K) → Pending S past t →
    (gs : List Group) → GroupsOf S.set t gs → Distinct gs →
    ((g : Group) → Touches S.set t g → (S.view g (posts past g)).full ≡ false) → Made S T past t
