-- The moves end what is pending.
use Rattle.std.proofs.Common.{◌≡◌, ℕ, ◌<◌, ◌≤◌, true, false, not, ◌≢◌, ◌⊎◌, List, [], ◌∷◌, length, sym, refl, ap, ◌∙◌, subst, inl, inr, not-suc-le-zero, arith}
use mathlib.Core.Bool.{false≢true}
use mathlib.Core.Option.{none, some}
use Rattle.protocol.specs.Kinds.{Kinds, Group, Replica}
use Rattle.protocol.specs.Lists.{In, Distinct, only, Since}
use Rattle.protocol.specs.Transactions.{Vote, commit, abort, Txn}
use Rattle.protocol.specs.Settings.{Setting}
use Rattle.protocol.specs.Conflicts.{Touches}
use Rattle.protocol.specs.Replicas.{Status, absent, pending, committed, rolled_back, declined, vote_of, System, status_of}
use Rattle.protocol.specs.Quorums.{HonestAt, FewFaulty, Majority}
use Rattle.protocol.specs.Steps.{end_of, Laws, ProgressLaws}
use Rattle.protocol.specs.Runs.{deliver, Run, posts, place, passed, status_at, Posted}
use Rattle.protocol.specs.Assumptions.{Assumptions}
use Rattle.protocol.specs.Tallies.{Tally, Says, OneVote, Opens, Certifies, TallyLaws}
use Rattle.protocol.specs.Ending.{Pending, Passing, AllPass, Asked, EndsAs, Ending}
use Rattle.protocol.proofs.Lists.{In-right, in_take, since_tail, since_trans}
use Rattle.protocol.proofs.Counting.{only_in, only_split, only_distinct, below, below_in, below_distinct, below_length}
use Rattle.protocol.proofs.Certificates.{valid_commit, valid_abort}
use Rattle.protocol.proofs.Statuses.{Later, same_vote}
use Rattle.protocol.proofs.Runs.{step, in_since, posted_since, later_since, origin_at, vote_since, Votes, votes}
use Rattle.protocol.proofs.Agreement.{Certified, certified, not_declined, not_rolled_back, no_abort}

module _ {K : Kinds} where
  later_known : (a b : Status K) → Later a b → a ≢ absent → b ≢ absent
  later_known absent b l n e = n refl
  later_known (pending t) b (inl p) n e = false≢true (cc)
  later_known (pending t) b (inr (inl p)) n e = false≢true (cc)
  later_known (pending t) b (inr (inr p)) n e = false≢true (cc)
  later_known committed b l n e = false≢true (cc)
  later_known rolled_back b l n e = false≢true (cc)
  later_known declined b l n e = false≢true (cc)

  vote_given : (s : Status K) → s ≢ absent → (v : Vote) × (vote_of s ≡ some v)
  vote_given absent n = absurd (n refl)
  vote_given (pending t) n = (commit, refl)
  vote_given committed n = (commit, refl)
  vote_given rolled_back n = (commit, refl)
  vote_given declined n = (abort, refl)

  -- what is passed was posted
  passing_in : (start end : Run K) (g : Group) (r : Replica) (m : K.Message) → Passing start end g r m →
      In m (posts end g)
  passing_in start end g r m p =
      in_since p.until g m
      (in_take m (place (deliver g r ∷ p.at) g r) (posts (deliver g r ∷ p.at) g)
      (subst (In m) (sym p.over) (In-right m (passed p.at g r) (m ∷ []) (inl refl))))

  -- more replicas of a group are honest than may be faulty
  most_honest : (W : Setting K) → FewFaulty W → Majority W → (g : Group) (k : K.Key) → W.home k ≡ g →
      (rs : List Replica) × Distinct rs × (W.faults < length rs) × ((r : Replica) → In r rs → HonestAt W g r)
  most_honest W few maj g k hk = (
    only (W.honest g) (below n),
    only_distinct (W.honest g) (below n) (below_distinct n),
    many,
    λ r i. let o = only_in (W.honest g) (below n) r i in (below_in n r o.0, o.1),
  )
    where
      n : ℕ
      n = W.replicas

      faulty_is : (r : Replica) → not (W.honest g r) ≡ true → W.honest g r ≡ false
      faulty_is r e = grind arith

      faulty : length (only (λ r. not (W.honest g r)) (below n)) ≤ W.faults
      faulty =
          few k (only (λ r. not (W.honest g r)) (below n))
          (only_distinct (λ r. not (W.honest g r)) (below n) (below_distinct n))
          (λ r i. let o = only_in (λ r. not (W.honest g r)) (below n) r i in
          (below_in n r o.0, ap (λ z. W.honest z r) hk ∙ faulty_is r o.1))

      many : W.faults < length (only (W.honest g) (below n))
      many = omega (arith, only_split (W.honest g) (below n), below_length n, faulty, maj)

module _ {K : Kinds} (S : System K) (laws : Laws S) (progress : ProgressLaws S) where
  -- a proposal passed with room in the book leaves the name known
  heard : (start end : Run K) (g : Group) (r : Replica) (m : K.Message) (x : K.Name) → S.set.proposal m ≡ some x →
      (p : Passing start end g r m) →
      (status_at S p.at g r x ≡ absent → (S.view g (passed p.at g r)).full ≡ false) →
      status_at S (deliver g r ∷ p.at) g r x ≢ absent
  heard start end g r m x is p room = go (status_at S p.at g r x) refl
    where
      still : (s : Status K) → status_at S p.at g r x ≡ s → s ≢ absent →
          status_at S (deliver g r ∷ p.at) g r x ≢ absent
      still s e n =
          later_known (status_at S p.at g r x) (status_at S (deliver g r ∷ p.at) g r x)
          (later_since S laws (step (deliver g r) p.at) g r x)
          (λ f. n (sym e ∙ f))

      go : (s : Status K) → status_at S p.at g r x ≡ s → status_at S (deliver g r ∷ p.at) g r x ≢ absent
      go absent e =
          subst (λ l. status_of S g l x ≢ absent) (sym p.over)
          (progress.hears g (passed p.at g r) m x is (room e))
      go (pending u) e = still (pending u) e (λ f. false≢true (cc))
      go committed e = still committed e (λ f. false≢true (cc))
      go rolled_back e = still rolled_back e (λ f. false≢true (cc))
      go declined e = still declined e (λ f. false≢true (cc))

  module _ (T : Tally K) (tally : TallyLaws S.set T) (few : FewFaulty S.set) (maj : Majority S.set)
      (past mid : Run K) (since : Since past mid) (t : Txn K) (pend : Pending S past t) (q : Asked S past mid t) where
    -- the moment right after r of g has passed the proposal
    abbrev heard_at : (g : Group) (r : Replica) → Touches S.set t g → HonestAt S.set g r → Run K
    heard_at g r n h = deliver g r ∷ (q.passing g r n h).at

    known : (g : Group) (r : Replica) (n : Touches S.set t g) (h : HonestAt S.set g r) →
        status_at S (heard_at g r n h) g r t.name ≢ absent
    known g r n h = heard past mid g r q.proposal t.name q.proposes (q.passing g r n h) (q.room g r n h)

    voted : (g : Group) (r : Replica) (n : Touches S.set t g) (h : HonestAt S.set g r) →
        (v : Vote) × (vote_of (status_at S (heard_at g r n h) g r t.name) ≡ some v)
    voted g r n h = vote_given (status_at S (heard_at g r n h) g r t.name) (known g r n h)

    mid_vote : (g : Group) (r : Replica) (n : Touches S.set t g) (h : HonestAt S.set g r) →
        vote_of (status_at S mid g r t.name) ≡ some (voted g r n h).0
    mid_vote g r n h =
        vote_since S laws (q.passing g r n h).until g r t.name (voted g r n h).0 (voted g r n h).1

    -- the honest replicas of a group all answer, and give one vote
    one_vote : (g : Group) → In g q.groups → OneVote S.set t.name q.answers g
    one_vote g i = go m.0 m.1 m.2 m.3
      where
        n : Touches S.set t g
        n = (q.theirs g).0 i

        m : (rs : List Replica) × Distinct rs × (S.set.faults < length rs) ×
            ((r : Replica) → In r rs → HonestAt S.set g r)
        m = most_honest S.set few maj g n.0 n.1

        same : (r p : Replica) (v : Vote) (hp : HonestAt S.set g p) →
            vote_of (status_at S mid g r t.name) ≡ some v → v ≡ (voted g p n hp).0
        same r p v hp e =
            same_vote S laws g (posts mid g) (place mid g r) (place mid g p) t.name v (voted g p n hp).0 e
            (mid_vote g p n hp)

        go : (rs : List Replica) → Distinct rs → S.set.faults < length rs →
            ((r : Replica) → In r rs → HonestAt S.set g r) → OneVote S.set t.name q.answers g
        go [] d many hon = absurd (not-suc-le-zero many)
        go (p ∷ rs) d many hon =
            record {
              vote = (voted g p n (hon p (inl refl))).0;
              replicas = p ∷ rs;
              distinct = d;
              there = λ r j. (hon r j).0;
              many = many;
              says = λ r j.
                  let v = voted g r n (hon r j) in
                  let e = q.each g r n (hon r j) v.0 v.1 in
                  let one = same r p v.0 (hon p (inl refl)) (mid_vote g r n (hon r j)) in
                  (e.0, e.1, subst (λ w. Says S.set e.0 g r w t.name) one e.2);
              alike = λ a r v k j s. same r p v (hon p (inl refl)) (q.unforged a k g r v (hon r j) s);
            }

    t_posted : (g : Group) × Posted S past g t
    t_posted =
        let (g, r, hon, e) = pend in
        let o = origin_at S laws past g r t.name _ e in
        (g, o.1)

    opens : Opens S.set t q.groups
    opens = record { message = t_posted.1.0; carries = t_posted.1.2; groups = q.theirs }

    pub closed : (m : K.Message) × (T.writes t.name q.groups q.answers ≡ some m)
    closed = tally.closes t q.groups opens q.answers one_vote

    pub wrote : Certifies S.set t q.answers closed.0
    wrote = tally.proper t q.groups opens q.answers closed.0 closed.1

    numbers : (before : List K.Message) (m : K.Message) → T.writes t.name q.groups before ≡ none →
        (g : Group) (r : Replica) (v : Vote) → Touches S.set t g → HonestAt S.set g r →
        Says S.set m g r v t.name →
        (T.number t.name q.groups before m ≡ 0) ⊎ (T.number t.name q.groups before m ≡ 17)
    numbers before m e g r v n h s = tally.admits t q.groups opens before e m g r v ((q.theirs g).1 n) h.0 s

    -- then the certificate is passed
    module _ (run : Run K) (later : Since mid run) (a : Assumptions S run) (told : AllPass S mid run t closed.0)
        (g : Group) (r : Replica) (n : Touches S.set t g) (h : HonestAt S.set g r) where
      at : Run K
      at = (told g r n h).at

      abbrev Now : Status K → Type 0
      Now s = status_at S run g r t.name ≡ s

      posted : (g : Group) × Posted S run g t
      posted = (t_posted.0, posted_since S (since_trans since later) t_posted.0 t t_posted.1)

      -- the certificate has ended the transaction, or it had ended before
      abbrev Ended : Type 0
      Ended = Now (end_of wrote.certificate.vote) ⊎ (Now committed ⊎ (Now rolled_back ⊎ Now declined))

      ended : Ended
      unfolding at
      ended = go (status_at S at g r t.name) refl
        where
          at_run : Since at run
          at_run = since_tail (deliver g r) at (told g r n h).until

          here : status_at S at g r t.name ≢ absent
          here =
              later_known (status_at S (heard_at g r n h) g r t.name) (status_at S at g r t.name)
              (later_since S laws (since_trans (q.passing g r n h).until (told g r n h).after) g r t.name)
              (known g r n h)

          keep : (s : Status K) → status_at S at g r t.name ≡ s → Later s (status_at S run g r t.name)
          keep s e = subst (λ z. Later z (status_at S run g r t.name)) e (later_since S laws at_run g r t.name)

          final : (v : Vote) → status_at S (deliver g r ∷ at) g r t.name ≡ end_of v → Now (end_of v)
          final commit e =
              subst (λ z. Later z (status_at S run g r t.name)) e
              (later_since S laws (told g r n h).until g r t.name)
          final abort e =
              subst (λ z. Later z (status_at S run g r t.name)) e
              (later_since S laws (told g r n h).until g r t.name)

          go : (s : Status K) → status_at S at g r t.name ≡ s → Ended
          go absent e = absurd (here e)
          go committed e = inr (inl (keep committed e))
          go rolled_back e = inr (inr (inl (keep rolled_back e)))
          go declined e = inr (inr (inr (keep declined e)))
          go (pending u) e =
              let o = origin_at S laws at g r t.name _ e in
              let ut = a.one_body g posted.0 u t (posted_since S at_run g u o.1) posted.1 o.0 in
              let w = progress.settles g (passed at g r) closed.0 t wrote.certificate wrote.reads
              wrote.valid (e ∙ ap pending ut) in
              inl (final wrote.certificate.vote
              (subst (λ l. status_of S g l t.name ≡ end_of wrote.certificate.vote) (sym (told g r n h).over) w))

      stands : In closed.0 (posts run g)
      stands = passing_in mid run g r closed.0 (told g r n h)

      marked : Votes S run
      marked = votes S laws few run a.unforged

      ends : (v : Vote) → wrote.certificate.vote ≡ v → EndsAs v (status_at S run g r t.name)
      ends commit cv = go ended
        where
          k : Certified S run t
          k =
              record {
                home = posted.0;
                posted = posted.1;
                board = g;
                message = closed.0;
                stands = stands;
                quorums = valid_commit S.set closed.0 t wrote.certificate wrote.reads wrote.valid cv;
              }

          go : Ended → Now committed
          go (inl e) = e ∙ ap end_of cv
          go (inr (inl e)) = e
          go (inr (inr (inl e))) = absurd (not_rolled_back S laws run marked a.one_body t k g r e)
          go (inr (inr (inr e))) = absurd (not_declined S laws run marked a.one_body t k g r n e)
      ends abort cv = go ended
        where
          -- what an abort certificate stands for was never committed
          lost : Now committed → ⊥
          lost e =
              let b = valid_abort S.set closed.0 t wrote.certificate wrote.reads wrote.valid cv in
              let o = origin_at S laws run g r t.name _ e in
              let ot = a.one_body g posted.0 o.0 t o.2 posted.1 o.1 in
              let k = certified S laws run marked a.one_body t g r (subst (Posted S run g) ot o.2) e in
              let w = marked g closed.0 stands b.0 b.1.0 b.1.1 abort t.name b.2 in
              no_abort S laws run marked a.one_body t k b.0 w.0 b.1 w.2

          go : Ended → EndsAs abort (status_at S run g r t.name)
          go (inl e) = inl (e ∙ ap end_of cv)
          go (inr (inl e)) = absurd (lost e)
          go (inr (inr (inl e))) = inl e
          go (inr (inr (inr e))) = inr e

pub ending : (K : Kinds) → Ending K
ending K S T laws progress tally few maj past mid since t pend q =
    record {
      voted = voted S laws progress T tally few maj past mid since t pend q;
      certificate = (closed S laws progress T tally few maj past mid since t pend q).0;
      closes = (closed S laws progress T tally few maj past mid since t pend q).1;
      numbers = λ before after m e. numbers S laws progress T tally few maj past mid since t pend q before m;
      vote = (wrote S laws progress T tally few maj past mid since t pend q).certificate.vote;
      ends = λ run later a told g r n h. ends S laws progress T tally few maj past mid since t pend q run later a told
          g r n h
          (wrote S laws progress T tally few maj past mid since t pend q).certificate.vote refl;
    }
