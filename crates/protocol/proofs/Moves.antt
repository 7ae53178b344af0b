-- The moves, made one after the other.
use Rattle.std.proofs.Common.{◌≡◌, false, ◌⊎◌, List, [], ◌∷◌, ◌++◌, map, sym, refl, ap, ◌∙◌, subst, ap₂, inl, inr}
use mathlib.Core.Bool.{false≢true}
use mathlib.Core.Option.{Option, none, some}
use Rattle.protocol.specs.Kinds.{Kinds, Group, Replica}
use Rattle.protocol.specs.Lists.{In, Distinct, Since}
use Rattle.protocol.specs.Transactions.{Vote, Txn}
use Rattle.protocol.specs.Certificates.{Certificate}
use Rattle.protocol.specs.Conflicts.{Touches, GroupsOf}
use Rattle.protocol.specs.Replicas.{vote_of, System}
use Rattle.protocol.specs.Quorums.{HonestAt, FewFaulty, Majority}
use Rattle.protocol.specs.Steps.{Laws, ProgressLaws}
use Rattle.protocol.specs.Runs.{deliver, Run, posts, passed, status_at}
use Rattle.protocol.specs.Assumptions.{Assumptions}
use Rattle.protocol.specs.Tallies.{Tally, Says, TallyLaws}
use Rattle.protocol.specs.Ending.{Pending, Passing, AllPass, Asked}
use Rattle.protocol.specs.Moves.{Writable, Made, MovesCanBeMade}
use Rattle.protocol.proofs.Lists.{In-left, In-right}
use Rattle.protocol.proofs.Tests.{in_map}
use Rattle.protocol.proofs.Counting.{below, in_below}
use Rattle.protocol.proofs.Commits.{honest_or_not}
use Rattle.protocol.proofs.Runs.{vote_since}
use Rattle.protocol.proofs.Assumptions.{Given, given_none}
use Rattle.protocol.proofs.Extend.{spread_out, spread_since, spread_assumed, spread_passed}
use Rattle.protocol.proofs.Ending.{closed, wrote}

-- the replicas of the groups
abbrev pairs : List Group → List Replica → List (Group × Replica)
pairs [] rs = []
pairs (g ∷ gs) rs = map (λ r. (g, r)) rs ++ pairs gs rs

in_pairs : (gs : List Group) (rs : List Replica) (g : Group) (r : Replica) → In g gs → In r rs → In (g, r) (pairs gs rs)
in_pairs [] rs g r i j = absurd i
in_pairs (h ∷ gs) rs g r (inl e) j =
    In-left (g, r) (map (λ r. (h, r)) rs) (pairs gs rs) (in_map (λ r. (h, r)) rs r (g, r) j (λ i. (e i, r)))
in_pairs (h ∷ gs) rs g r (inr i) j = In-right (g, r) (map (λ r. (h, r)) rs) (pairs gs rs) (in_pairs gs rs g r i j)

-- what they say, if they say anything
module _ {A : Type 0} (f : Group → Replica → Option A) where
  abbrev one_of : Option A → List A → List A
  one_of none rest = rest
  one_of (some a) rest = a ∷ rest

  abbrev gather : List (Group × Replica) → List A
  gather [] = []
  gather (p ∷ ps) = one_of (f p.0 p.1) (gather ps)

  gather_in : (ps : List (Group × Replica)) (g : Group) (r : Replica) (a : A) → In (g, r) ps → f g r ≡ some a →
      In a (gather ps)
  gather_in [] g r a i e = absurd i
  gather_in (p ∷ ps) g r a (inl q) e =
      subst (λ o. In a (one_of o (gather ps))) (sym (ap (λ (z : Group × Replica). f z.0 z.1) (sym q) ∙ e))
      (inl refl)
  gather_in (p ∷ ps) g r a (inr i) e = go (f p.0 p.1) (gather_in ps g r a i e)
    where
      go : (o : Option A) → In a (gather ps) → In a (one_of o (gather ps))
      go none j = j
      go (some b) j = inr j

  gather_out : (ps : List (Group × Replica)) (a : A) → In a (gather ps) → (g : Group) × (r : Replica) × (f g r ≡ some a)
  gather_out [] a i = absurd i
  gather_out (p ∷ ps) a i = go (gather_out ps a) (f p.0 p.1) refl i
    where
      go : (In a (gather ps) → (g : Group) × (r : Replica) × (f g r ≡ some a)) →
          (o : Option A) → f p.0 p.1 ≡ o → In a (one_of o (gather ps)) →
          (g : Group) × (r : Replica) × (f g r ≡ some a)
      go rest none e j = rest j
      go rest (some b) e (inl q) = (p.0, p.1, e ∙ ap some (sym q))
      go rest (some b) e (inr j) = rest j

module _ {K : Kinds} (S : System K) (T : Tally K) (laws : Laws S) (progress : ProgressLaws S)
    (tally : TallyLaws S.set T)
    (few : FewFaulty S.set) (maj : Majority S.set) (can : Writable S.set) (past : Run K)
    (assumed : Assumptions S past)
    (t : Txn K) (pend : Pending S past t) (gs : List Group) (theirs : GroupsOf S.set t gs) (distinct : Distinct gs)
    (room : (g : Group) → Touches S.set t g → (S.view g (posts past g)).full ≡ false) where
  -- the replicas of the groups that t names
  ps : List (Group × Replica)
  ps = pairs gs (below S.set.replicas)

  in_ps : (g : Group) (r : Replica) → Touches S.set t g → HonestAt S.set g r → In (g, r) ps
  unfolding ps
  in_ps g r n h = in_pairs gs (below S.set.replicas) g r ((theirs g).1 n) (in_below S.set.replicas r h.0)

  -- the proposal
  proposal : K.Message
  proposal = (can.proposal t.name).0

  mid : Run K
  mid = spread_out proposal gs ps past

  past_mid : Since past mid
  unfolding mid
  past_mid = spread_since proposal gs ps past

  mid_assumed : Assumptions S mid
  unfolding mid proposal
  mid_assumed =
      spread_assumed proposal gs ps past S assumed
      (λ later s. given_none S later proposal (can.proposal t.name).3)
      (can.proposal t.name).2

  passing_all : (g : Group) (r : Replica) → Touches S.set t g → HonestAt S.set g r →
      (p : Passing past mid g r proposal) × (passed p.at g r ≡ posts past g)
  unfolding mid
  passing_all g r n h =
      spread_passed proposal gs ps past distinct g r ((theirs g).1 n) (in_ps g r n h)

  passing : AllPass S past mid t proposal
  passing g r n h = (passing_all g r n h).0

  has_room : (g : Group) (r : Replica) (n : Touches S.set t g) (h : HonestAt S.set g r) →
      (S.view g (passed (passing g r n h).at g r)).full ≡ false
  unfolding passing
  has_room g r n h = subst (λ l. (S.view g l).full ≡ false) (sym (passing_all g r n h).1) (room g n)

  -- the answers, as the honest replicas give them by then
  says : (g : Group) (r : Replica) → HonestAt S.set g r ⊎ (HonestAt S.set g r → ⊥) → Option Vote →
      Option K.Message
  says g r (inl h) none = none
  says g r (inl h) (some v) = some (can.answer g r v t.name h).0
  says g r (inr n) o = none

  reply : Group → Replica → Option K.Message
  reply g r = says g r (honest_or_not S g r) (vote_of (status_at S mid g r t.name))

  answers : List K.Message
  answers = gather reply ps

  each : (g : Group) (r : Replica) (n : Touches S.set t g) (h : HonestAt S.set g r) (v : Vote) →
      vote_of (status_at S (deliver g r ∷ (passing g r n h).at) g r t.name) ≡ some v →
      (m : K.Message) × In m answers × Says S.set m g r v t.name
  unfolding answers reply says
  each g r n h v e = go (honest_or_not S g r) refl
    where
      given : vote_of (status_at S mid g r t.name) ≡ some v
      given = vote_since S laws (passing g r n h).until g r t.name v e

      go : (o : HonestAt S.set g r ⊎ (HonestAt S.set g r → ⊥)) → honest_or_not S g r ≡ o →
          (m : K.Message) × In m answers × Says S.set m g r v t.name
      go (inr no_one) p = absurd (no_one h)
      go (inl k) p =
          let a = can.answer g r v t.name k in (
            a.0,
            gather_in reply ps g r a.0 (in_ps g r n h)
                (ap₂ (says g r) p given),
            a.1,
          )

  unforged : (m : K.Message) → In m answers → (g : Group) (r : Replica) (v : Vote) → HonestAt S.set g r →
      Says S.set m g r v t.name → vote_of (status_at S mid g r t.name) ≡ some v
  unfolding answers reply says
  unforged m i g r v hon s =
      let (h, q, e) = gather_out reply ps m i in
      go h q (honest_or_not S h q) (vote_of (status_at S mid h q t.name)) refl e
    where
      go : (h : Group) (q : Replica) (d : HonestAt S.set h q ⊎ (HonestAt S.set h q → ⊥)) (o : Option Vote) →
          vote_of (status_at S mid h q t.name) ≡ o → says h q d o ≡ some m →
          vote_of (status_at S mid g r t.name) ≡ some v
      go h q (inl k) none p e = absurd (false≢true (cc))
      go h q (inr n) o p e = absurd (false≢true (cc))
      go h q (inl k) (some w) p e =
          let b = (can.answer h q w t.name k).1 in
          let same : b.answer ≡ s.answer = cc (b.reads, s.reads) in
          let hg : h ≡ g = cc (b.group, s.group) in
          let qr : q ≡ r = cc (b.replica, s.replica) in
          let wv : w ≡ v = cc (b.voted, s.voted) in
          cc

  asked : Asked S past mid t
  unfolding proposal
  asked =
      record {
        proposal = proposal;
        proposes = (can.proposal t.name).1;
        passing = passing;
        room = λ g r n h _. has_room g r n h;
        groups = gs;
        theirs = theirs;
        answers = answers;
        each = each;
        unforged = unforged;
      }

  -- the certificate
  certificate : K.Message
  certificate = (closed S laws progress T tally few maj past mid past_mid t pend asked).0

  run : Run K
  run = spread_out certificate gs ps mid

  -- it bears only marks of the answers
  given : (later : Run K) → Since mid later → Given S later certificate
  unfolding asked certificate
  given later s g r v x hon b =
      let w = wrote S laws progress T tally few maj past mid past_mid t pend asked in
      let c : b.certificate ≡ w.certificate = cc (b.reads, w.reads) in
      let tx : t.name ≡ x = cc (w.valid.named, b.named) in
      let (a, i, e) = w.heard b.entry (subst (λ (z : Certificate K). In b.entry z.entries) c b.stands) in
      let said = unforged a i g r v hon (record {
        answer = record { name = w.certificate.name; vote = w.certificate.vote; entry = b.entry };
        reads = e;
        named = w.valid.named;
        voted = cc b.voted;
        group = b.group;
        replica = b.replica;
        genuine = cc b.genuine;
      }) in
      vote_since S laws s g r x v (subst (λ y. vote_of (status_at S mid g r y) ≡ some v) tx said)

  run_assumed : Assumptions S run
  unfolding run certificate
  run_assumed =
      spread_assumed certificate gs ps mid S mid_assumed given
      (can.apart certificate (wrote S laws progress T tally few maj past mid past_mid t pend asked).certificate
      (wrote S laws progress T tally few maj past mid past_mid t pend asked).reads)

  told : AllPass S mid run t certificate
  unfolding run
  told g r n h =
      (spread_passed certificate gs ps mid distinct g r ((theirs g).1 n) (in_ps g r n h)).0

  mid_run : Since mid run
  unfolding run
  mid_run = spread_since certificate gs ps mid

  certificate_is : T.writes t.name asked.groups asked.answers ≡ some certificate
  unfolding certificate
  certificate_is = (closed S laws progress T tally few maj past mid past_mid t pend asked).1

  made : Made S T past t
  made =
      record {
        mid = mid;
        since = past_mid;
        asked = asked;
        certificate = certificate;
        closes = certificate_is;
        run = run;
        later = mid_run;
        assumptions = run_assumed;
        passing = told;
      }

pub moves_can_be_made : (K : Kinds) → MovesCanBeMade K
moves_can_be_made K S T laws progress tally few maj can past a t pend gs theirs distinct room =
    made S T laws progress tally few maj can past a t pend gs theirs distinct room
