-- The example run keeps the assumptions, and does what is said of it.
use Rattle.std.proofs.Common.{◌≡◌, ℕ, Bool, true, false, not, ◌||◌, eqb, ltb, List, [], ◌∷◌, sym, refl, ap, ◌∙◌, subst, inl, inr, zero-le, arith, lit≤}
use mathlib.Core.Bool.{false≢true}
use mathlib.Core.Option.{Option, none, some}
use Rattle.std.proofs.lemmas.Bool.Decides.{nat_tests}
use Rattle.protocol.specs.Kinds.{Group, Replica}
use Rattle.protocol.specs.Lists.{In}
use Rattle.protocol.specs.Transactions.{Vote, commit, abort, Txn}
use Rattle.protocol.specs.Certificates.{Entry, Certificate}
use Rattle.protocol.specs.Conflicts.{Touches, GroupsOf}
use Rattle.protocol.specs.Replicas.{vote_of}
use Rattle.protocol.specs.Quorums.{FewFaulty}
use Rattle.protocol.specs.Runs.{post, deliver, other, Run, posts, status_at, Posted}
use Rattle.protocol.specs.Assumptions.{Assumptions}
use Rattle.protocol.specs.Moves.{Writable}
use Rattle.protocol.specs.Tests.{all}
use Rattle.protocol.specs.SmallMessages.{Body, Message, begin, propose, certify, reply, small, txn, body_of, setting}
use Rattle.protocol.specs.SmallStep.{system}
use Rattle.protocol.specs.SmallTally.{tally, is_vote}
use Rattle.protocol.specs.Example.{three, transfer, payment, transferred, withdrawn, round, halfway, whole}
use Rattle.protocol.specs.Example.{ExampleRun, ExampleEnds}
use Rattle.protocol.proofs.Tests.{all_in}
use Rattle.protocol.proofs.Runs.{more_out}
use Rattle.protocol.proofs.Assumptions.{Given, given_none, Alone, alone_none, assumed_empty, assumed_post}
use Rattle.protocol.proofs.Assumptions.{assumed_deliver}
use Rattle.protocol.proofs.Moves.{moves_can_be_made}
use Rattle.protocol.proofs.SmallTests.{groups_of_lem}
use Rattle.protocol.proofs.SmallStep.{small_step_keeps_laws}
use Rattle.protocol.proofs.SmallTally.{vote_is, small_tally_keeps_laws}

few : FewFaulty (setting three)
few k [] d f = zero-le
few k (r ∷ []) d f = lit≤ tt
few k (r ∷ q ∷ rs) d f =
    let (lr, hr) = f r (inl refl) in
    let (lq, hq) = f q (inr (inl refl)) in
    let rq : r ≡ q = grind (arith, nat_tests) in
    absurd (d.0 (inl rq))

-- the test that a certificate forges no honest replica's mark
abbrev is_given : Vote → Option Vote → Bool
is_given v none = false
is_given v (some w) = is_vote v w

given_is : (v : Vote) (o : Option Vote) → is_given v o ≡ true → o ≡ some v
given_is v none e = cc
given_is v (some w) e = ap some (sym (vote_is v w e))

abbrev unforged : Run small → ℕ → Vote → List (Entry ℕ) → Bool
unforged run x v es =
    all (λ e. not (ltb e.replica 2) || is_given v (vote_of (status_at (system three) run e.group e.replica x))) es

given_by : (run : Run small) (x : ℕ) (v : Vote) (es : List (Entry ℕ)) → unforged run x v es ≡ true →
    Given (system three) run (certify x v es)
given_by run x v es h g r w y hon b =
    let c : record { name = x; vote = v; entries = es } ≡ b.certificate = cc b.reads in
    let i = subst (λ (z : Certificate small). In b.entry z.entries) (sym c) b.stands in
    let t = all_in
    (λ (e : Entry ℕ). not (ltb e.replica 2) || is_given v
    (vote_of (status_at (system three) run e.group e.replica x))) es b.entry h i in
    let hr : ltb b.entry.replica 2 ≡ true = ap (λ z. ltb z 2) b.replica ∙ hon.1 in
    let k : is_given v (vote_of (status_at (system three) run b.entry.group b.entry.replica x)) ≡ true =
    grind arith in
    let said = given_is v (vote_of (status_at (system three) run b.entry.group b.entry.replica x)) k in
    moved (λ g r x. vote_of (status_at (system three) run g r x)) b.entry.group g b.entry.replica r x y v w said
    b.group b.replica
    (ap (λ (z : Certificate small). z.name) c ∙ b.named) (ap (λ (z : Certificate small). z.vote) c ∙ b.voted)
  where
    moved : (f : Group → Replica → ℕ → Option Vote) (h g : Group) (q r : Replica) (x y : ℕ) (v w : Vote) →
        f h q x ≡ some v → h ≡ g → q ≡ r → x ≡ y → v ≡ w → f g r y ≡ some w
    moved f h g q r x y v w e hg qr xy vw = cc

-- the bodies that were posted
abbrev bodies : Run small → List Body
bodies [] = []
bodies (post g (begin b) ∷ run) = b ∷ bodies run
bodies (post g (propose x) ∷ run) = bodies run
bodies (post g (certify x v es) ∷ run) = bodies run
bodies (post g (reply x v e) ∷ run) = bodies run
bodies (deliver g r ∷ run) = bodies run
bodies (other ∷ run) = bodies run

posted_body : (run : Run small) (g : Group) (t : Txn small) → Posted (system three) run g t →
    (b : Body) × In b (bodies run) × (t ≡ txn b)
posted_body [] g t p = absurd p.1
posted_body (deliver h r ∷ run) g t p = posted_body run g t p
posted_body (other ∷ run) g t p = posted_body run g t p
posted_body (post h n ∷ run) g t (m, i, e) =
    elim (more_out (eqb h g) n m (posts run g) i) [
      | inl j ↦ let r = posted_body run g t (m, j, e) in (r.0, more n r.0 r.1, r.2)
      | inr mn ↦ this n (ap body_of (sym mn) ∙ e)
    ]
  where
    more : (n : Message) (b : Body) → In b (bodies run) → In b (bodies (post h n ∷ run))
    more (begin c) b j = inr j
    more (propose x) b j = j
    more (certify x v es) b j = j
    more (reply x v d) b j = j

    this : (n : Message) → body_of n ≡ some t → (b : Body) × In b (bodies (post h n ∷ run)) × (t ≡ txn b)
    this (begin c) q = (c, inl refl, cc)
    this (propose x) q = absurd (false≢true (cc))
    this (certify x v es) q = absurd (false≢true (cc))
    this (reply x v d) q = absurd (false≢true (cc))

alone_by : (run : Run small) (b : Body) → ((c : Body) → In c (bodies run) → c.name ≡ b.name → c ≡ b) →
    Alone (system three) run (begin b)
alone_by run b h g t u e p n =
    let (c, i, uc) = posted_body run g u p in
    let tb : txn b ≡ t = cc in
    let nb : c.name ≡ b.name = ap (λ (z : Txn small). z.name) (sym uc) ∙ sym n ∙
    ap (λ (z : Txn small). z.name) (sym tb) in
    sym tb ∙ ap txn (sym (h c i nb)) ∙ sym uc

abbrev Keeps : Run small → Type 0
Keeps run = Assumptions (system three) run

round_keeps : (run : Run small) → Keeps run → Keeps (round run)
round_keeps run k =
    assumed_deliver (system three) (deliver 1 0 ∷ deliver 0 1 ∷ deliver 0 0 ∷ run) 1 1
    (assumed_deliver (system three) (deliver 0 1 ∷ deliver 0 0 ∷ run) 1 0
    (assumed_deliver (system three) (deliver 0 0 ∷ run) 0 1 (assumed_deliver (system three) run 0 0 k)))

body_keeps : (run : Run small) (g : Group) (b : Body) → Keeps run →
    ((c : Body) → In c (bodies run) → c.name ≡ b.name → c ≡ b) → Keeps (post g (begin b) ∷ run)
body_keeps run g b k h =
    assumed_post (system three) run g (begin b) k (given_none (system three) run (begin b) refl) (alone_by run b h)

propose_keeps : (run : Run small) (g : Group) (x : ℕ) → Keeps run → Keeps (post g (propose x) ∷ run)
propose_keeps run g x k =
    assumed_post (system three) run g (propose x) k (given_none (system three) run (propose x) refl)
    (alone_none (system three) run (propose x) refl)

certify_keeps : (run : Run small) (g : Group) (x : ℕ) (v : Vote) (es : List (Entry ℕ)) → Keeps run →
    unforged run x v es ≡ true → Keeps (post g (certify x v es) ∷ run)
certify_keeps run g x v es k h =
    assumed_post (system three) run g (certify x v es) k (given_by run x v es h)
    (alone_none (system three) run (certify x v es) refl)

abbrev opened : Run small
opened = post 0 (begin payment) ∷ post 1 (begin transfer) ∷ post 0 (begin transfer) ∷ []

opened_keeps : Keeps opened
opened_keeps =
    body_keeps (post 1 (begin transfer) ∷ post 0 (begin transfer) ∷ []) 0 payment
    (body_keeps (post 0 (begin transfer) ∷ []) 1 transfer
    (body_keeps [] 0 transfer (assumed_empty (system three)) (λ c i. absurd i))
    (λ c i n. elim i [ inl e ↦ e | inr j ↦ absurd j ]))
    (λ c i n. absurd (not_payment c i n))
  where
    not_payment : (c : Body) → In c (transfer ∷ transfer ∷ []) → c.name ≡ 8 → ⊥
    not_payment c (inl e) n = let s : c.name ≡ 7 = ap (λ (z : Body). z.name) e in omega arith
    not_payment c (inr (inl e)) n = let s : c.name ≡ 7 = ap (λ (z : Body). z.name) e in omega arith
    not_payment c (inr (inr i)) n = absurd i

halfway_keeps : Keeps halfway
halfway_keeps =
    round_keeps (post 1 transferred ∷ post 0 transferred ∷ round (round opened))
    (certify_keeps (post 0 transferred ∷ round (round opened)) 1 7 commit _
    (certify_keeps (round (round opened)) 0 7 commit _
    (round_keeps (round opened) (round_keeps opened opened_keeps)) refl) refl)

whole_keeps : Keeps whole
whole_keeps =
    round_keeps (post 1 withdrawn ∷ post 0 withdrawn ∷ asked)
    (certify_keeps (post 0 withdrawn ∷ asked) 1 8 abort _
    (certify_keeps asked 0 8 abort _
    (round_keeps (post 1 (propose 8) ∷ post 0 (propose 8) ∷ halfway)
    (propose_keeps (post 0 (propose 8) ∷ halfway) 1 8 (propose_keeps halfway 0 8 halfway_keeps))) refl) refl)
  where
    asked : Run small
    asked = round (post 1 (propose 8) ∷ post 0 (propose 8) ∷ halfway)

pub example_run : ExampleRun
example_run =
    record {
      few = few;
      assumptions = whole_keeps;
      commits = (
        record { honest = (lit≤ tt, refl); posted = (begin transfer, inl refl, refl); done = refl },
        record { honest = (lit≤ tt, refl); posted = (begin transfer, inl refl, refl); done = refl },
      );
      writes = (refl, refl);
      rolls_back = refl;
      declines = refl;
      stays = refl;
    }

writable : Writable (setting three)
writable =
    record {
      proposal = λ x. (propose x, refl, refl, refl);
      answer = λ g r v x h. (
        reply x v (record { group = g; replica = r; mark = 1 }),
        record {
          answer = record { name = x; vote = v; entry = record { group = g; replica = r; mark = 1 } };
          reads = refl;
          named = refl;
          voted = refl;
          group = refl;
          replica = refl;
          genuine = refl;
        },
      );
      apart = apart;
    }
  where
    apart : (m : Message) (c : Certificate small) → (setting three).certificate m ≡ some c → body_of m ≡ none
    apart (begin b) c e = absurd (false≢true (cc))
    apart (propose x) c e = refl
    apart (certify x v es) c e = refl
    apart (reply x v d) c e = refl

both_groups : GroupsOf (setting three) (txn payment) (0 ∷ 1 ∷ [])
both_groups = groups_of_lem three payment

room : (g : Group) → Touches (setting three) (txn payment) g → ((system three).view g (posts halfway g)).full ≡ false
room g n =
    elim ((both_groups g).1 n) [
      | inl e ↦ subst (λ h. ((system three).view h (posts halfway h)).full ≡ false) (sym e) refl
      | inr (inl e) ↦ subst (λ h. ((system three).view h (posts halfway h)).full ≡ false) (sym e) refl
      | inr (inr i) ↦ absurd i
    ]

pub example_ends : ExampleEnds
example_ends =
    record {
      majority = lit≤ tt;
      pends = (0, 0, (lit≤ tt, refl), refl);
      moves = moves_can_be_made small (system three) (tally three) (small_step_keeps_laws three).0
          (small_step_keeps_laws three).1
          (small_tally_keeps_laws three) few (lit≤ tt) writable halfway halfway_keeps (txn payment)
          (0, 0, (lit≤ tt, refl), refl)
          (0 ∷ 1 ∷ []) both_groups ((λ i. zero_not_one i), ((λ i. absurd i), tt)) room;
    }
  where
    zero_not_one : In {A = ℕ} 0 (1 ∷ []) → ⊥
    zero_not_one (inl e) = omega arith
    zero_not_one (inr i) = absurd i
