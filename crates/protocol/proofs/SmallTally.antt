-- The small tally keeps the laws.
use Rattle.std.proofs.Common.{◌≡◌, ℕ, suc, ◌<◌, Bool, true, false, cond, eqb, ◌⊎◌, List, [], ◌∷◌, map, length, sym, refl, ap, ◌∙◌, subst, subst₂, inl, inr, arith}
use mathlib.Core.Bool.{false≢true}
use mathlib.Core.Option.{none, some}
use lib.ListN.{length-map}
use Rattle.std.proofs.lemmas.Bool.Decides.{nat_tests}
use Rattle.protocol.specs.Kinds.{Group, Replica}
use Rattle.protocol.specs.Lists.{In, only}
use Rattle.protocol.specs.Transactions.{Vote, commit, abort, Txn}
use Rattle.protocol.specs.Certificates.{Entry, Answer, Rising, from}
use Rattle.protocol.specs.Conflicts.{Touches, GroupsOf}
use Rattle.protocol.specs.Quorums.{Spread}
use Rattle.protocol.specs.Tallies.{Says, OneVote, Certifies}
use Rattle.protocol.specs.Tests.{any, all, has}
use Rattle.protocol.specs.SmallMessages.{Message, certify, small, answer_of, Config, setting}
use Rattle.protocol.specs.SmallTally.{is_vote, gives, votes, reached, outcome, is_closed, same_replica, addressed}
use Rattle.protocol.specs.SmallTally.{answer_number, number, fed, first, chosen, written, SmallTallyKeepsLaws}
use Rattle.protocol.proofs.Tests.{same_of, any_none, any_out, all_in, all_out, in_map, map_out, has_in, in_has}
use Rattle.protocol.proofs.Counting.{only_in, in_only, pigeon}
use Rattle.protocol.proofs.SmallCount.{entries, Turn, counts, refuses, turn, Kept, kept, all_late}

pub vote_is : (v w : Vote) → is_vote v w ≡ true → v ≡ w
vote_is commit commit e = refl
vote_is commit abort e = cc
vote_is abort commit e = cc
vote_is abort abort e = refl

vote_same : (v : Vote) → is_vote v v ≡ true
vote_same commit = refl
vote_same abort = refl

gives_is : (v : Vote) (g : Group) (a : Answer small) → a.vote ≡ v → a.entry.group ≡ g → gives v g a ≡ true
gives_is v g a p q = cc (vote_same v, same_of g a.entry.group (sym q))

first_is : (f : ℕ → Bool) (xs : List ℕ) → any f xs ≡ true → In (first f xs) xs × (f (first f xs) ≡ true)
first_is f [] e = absurd (false≢true e)
first_is f (x ∷ xs) e = go (first_is f xs) (f x) refl
  where
    go : (any f xs ≡ true → In (first f xs) xs × (f (first f xs) ≡ true)) → (b : Bool) → f x ≡ b →
        In (first f (x ∷ xs)) (x ∷ xs) × (f (first f (x ∷ xs)) ≡ true)
    go rest true h = let here : first f (x ∷ xs) ≡ x = cc in (inl here, ap f here ∙ h)
    go rest false h =
        let there : first f (x ∷ xs) ≡ first f xs = cc in
        let r = rest (cc) in (inr (subst (λ z. In z xs) (sym there) r.0), ap f there ∙ r.1)

-- entries of chosen answers
entries_rising : (f : Answer small → Bool) (cs : List (Answer small)) → Rising (entries cs) →
    Rising (entries (only f cs))
entries_rising f [] up = tt
entries_rising f (c ∷ cs) up = go (entries_rising f cs up.1) (f c)
  where
    go : Rising (entries (only f cs)) → (b : Bool) → Rising (entries (cond b (c ∷ only f cs) (only f cs)))
    go rest true = (
      λ d i.
          let r = map_out (λ (a : Answer small). a.entry) (only f cs) d i in
          up.0 d (in_map (λ (a : Answer small). a.entry) cs r.0 d (only_in f cs r.0 r.1).0 r.2),
      rest,
    )
    go rest false = rest

entries_from : (v : Vote) (g : Group) (cs : List (Answer small)) →
    length (from g (entries (only (λ a. is_vote v a.vote) cs))) ≡ length (votes v g cs)
entries_from v g [] = refl
entries_from v g (c ∷ cs) = go (entries_from v g cs) (is_vote v c.vote) refl (eqb g c.entry.group) refl
  where
    go : length (from g (entries (only (λ a. is_vote v a.vote) cs))) ≡ length (votes v g cs) →
        (b : Bool) → is_vote v c.vote ≡ b → (d : Bool) → eqb g c.entry.group ≡ d →
        length (from g (entries (only (λ a. is_vote v a.vote) (c ∷ cs)))) ≡ length (votes v g (c ∷ cs))
    go rest true hb true hd = cc
    go rest true hb false hd = cc
    go rest false hb d hd = cc

-- an answer says what it says
says_of : (C : Config) (x : ℕ) (gs : List Group) (m : Message) (a : Answer small) → answer_of m ≡ some a →
    addressed C x gs a ≡ true → C.genuine a.name a.vote a.entry ≡ true →
    Says (setting C) m a.entry.group a.entry.replica a.vote x
says_of C x gs m a r ad ge =
    let n : a.name ≡ x = grind (arith, nat_tests) in
    record {
      answer = a;
      reads = r;
      named = n;
      voted = refl;
      group = refl;
      replica = refl;
      genuine = subst (λ y. C.genuine y a.vote a.entry ≡ true) n ge;
    }

-- an answer that is said to a tally for x is addressed to it, and genuine
module _ (C : Config) (x : ℕ) (gs : List Group) (m : Message) (g : Group) (r : Replica) (v : Vote) (i : In g gs)
    (lt : r < C.replicas)
    (s : Says (setting C) m g r v x) where
  says_addressed : addressed C x gs s.answer ≡ true
  says_addressed =
      let h : has gs s.answer.entry.group ≡ true = ap (has gs) s.group ∙ in_has gs g i in
      let n = s.named in
      let q = s.replica in
      grind (arith, nat_tests)

  says_genuine : C.genuine s.answer.name s.answer.vote s.answer.entry ≡ true
  says_genuine = let n = s.named in let w = s.voted in let ge = s.genuine in cc

module _ (C : Config) (t : Txn small) (gs : List Group) (theirs : GroupsOf (setting C) t gs) (l : List Message) where
  abbrev x : ℕ
  x = t.name

  cs : List (Answer small)
  cs = fed C x gs [] l

  keeps : Kept C x gs l cs
  unfolding cs
  keeps = kept C x gs l

  -- an open tally, and a group that has not votes enough for either vote, though its replicas gave one vote
  module _ (open_yet : is_closed (outcome C gs cs) ≡ false) (g : Group) (ig : In g gs) (one : OneVote (setting C) x l g)
      (few : (v : Vote) → reached C cs v g ≡ false) where
    -- each of these replicas is counted, with that vote
    is_counted : (r : Replica) → In r one.replicas → In r (map (λ a. a.entry.replica) (votes one.vote g cs))
    unfolding cs
    is_counted r j =
        let (m, i, s) = one.says r j in
        let lt = one.there r j in
        let z = all_late C x gs l [] m s.answer i s.reads (says_addressed C x gs m g r one.vote ig lt s)
        (says_genuine C x gs m g r one.vote ig lt s) in
        let c : reached C cs commit s.answer.entry.group ≡ false = ap (reached C cs commit) s.group ∙
        few commit in
        let d : reached C cs abort s.answer.entry.group ≡ false = ap (reached C cs abort) s.group ∙ few abort in
        let (b, ib, sb) = any_out (same_replica s.answer) cs (grind arith) in
        let sg = s.group in
        let sr = s.replica in
        let bg : b.entry.group ≡ g = grind (arith, nat_tests) in
        let br : b.entry.replica ≡ r = grind (arith, nat_tests) in
        let (n, k, rb, ad, ge) = keeps.said b ib in
        let sn = subst₂ (λ h q. Says (setting C) n h q b.vote x) bg br (says_of C x gs n b rb ad ge) in
        let bv : b.vote ≡ one.vote = one.alike n r b.vote k j sn in
        in_map (λ (a : Answer small). a.entry.replica) (votes one.vote g cs) b r
        (in_only (gives one.vote g) cs b ib (gives_is one.vote g b bv bg)) (sym br)

    impossible : ⊥
    impossible =
        let le =
        pigeon one.replicas (map (λ a. a.entry.replica) (votes one.vote g cs)) one.distinct is_counted in
        let len = length-map (votes one.vote g cs) (λ (a : Answer small). a.entry.replica) in
        let many = one.many in
        let no = few one.vote in
        false≢true (grind (arith, nat_tests))

  closed : ((g : Group) → In g gs → OneVote (setting C) x l g) → (v : Vote) × (outcome C gs cs ≡ some v)
  closed all_say = go (any (reached C cs abort) gs) refl (all (reached C cs commit) gs) refl
    where
      go : (p : Bool) → any (reached C cs abort) gs ≡ p → (q : Bool) → all (reached C cs commit) gs ≡ q →
          (v : Vote) × (outcome C gs cs ≡ some v)
      go true hp q hq = (abort, cc)
      go false hp true hq = (commit, cc)
      go false hp false hq =
          let (g, i, h) = all_out (reached C cs commit) gs hq in
          let open_yet : is_closed (outcome C gs cs) ≡ false = cc in
          let none_abort = any_none (reached C cs abort) gs g hp i in
          absurd (impossible open_yet g i (all_say g i) (elim [ commit ↦ h | abort ↦ none_abort ]))

  -- what is written: answers of one vote
  module _ (v : Vote) (bs : List (Answer small))
      (theirs_too : (a : Answer small) → In a bs → In a cs × (is_vote v a.vote ≡ true)) where
    whose : (e : Entry ℕ) → In e (entries bs) → (a : Answer small) × In a cs × (a.vote ≡ v) × (a.entry ≡ e)
    whose e i =
        let r = map_out (λ (a : Answer small). a.entry) bs e i in
        let q = theirs_too r.0 r.1 in
        (r.0, q.0, sym (vote_is v r.0.vote q.1), sym r.2)

    wrote : Rising (entries bs) → Spread (setting C) t v (entries bs) →
        Certifies (setting C) t l (certify x v (entries bs))
    wrote up sp =
        record {
          certificate = record { name = x; vote = v; entries = entries bs };
          reads = refl;
          valid = record { named = refl; rises = up; marked = marked; spread = sp };
          heard = heard;
        }
      where
        marked : (e : Entry ℕ) → In e (entries bs) → (e.replica < C.replicas) × (C.genuine x v e ≡ true)
        marked e i =
            let (a, ia, av, ae) = whose e i in
            let (m, im, r, ad, ge) = keeps.said a ia in
            let n : a.name ≡ x = grind (arith, nat_tests) in
            let lt : a.entry.replica < C.replicas = grind (arith, nat_tests) in
            (subst (λ (z : Entry ℕ). z.replica < C.replicas) ae lt, cc)

        heard : (e : Entry ℕ) → In e (entries bs) →
            (m : Message) × In m l × (answer_of m ≡ some (record { name = x; vote = v; entry = e }))
        heard e i =
            let (a, ia, av, ae) = whose e i in
            let (m, im, r, ad, ge) = keeps.said a ia in
            let n : a.name ≡ x = grind (arith, nat_tests) in
            (m, im, r ∙ (λ i. some (record { name = n i; vote = av i; entry = ae i })))

  -- a group that has reached f + 1 votes has just so many
  just : (v : Vote) (g : Group) → reached C cs v g ≡ true → length (votes v g cs) ≡ suc C.faults
  just v g e = let h = keeps.few v g in grind (arith, nat_tests)

  in_group : (a : Answer small) → In a cs → In a.entry.group gs
  in_group a i =
      let (m, im, r, ad, ge) = keeps.said a i in
      let h : has gs a.entry.group ≡ true = grind arith in
      has_in gs a.entry.group h

  commit_wrote : all (reached C cs commit) gs ≡ true →
      Certifies (setting C) t l (certify x commit (entries (chosen C gs cs commit)))
  commit_wrote h =
      wrote commit (chosen C gs cs commit) (λ a i. only_in is_commit cs a i)
      (entries_rising is_commit cs keeps.rises) (own, enough)
    where
      is_commit : Answer small → Bool
      is_commit a = is_vote commit a.vote

      own : (e : Entry ℕ) → In e (entries (chosen C gs cs commit)) → Touches (setting C) t e.group
      own e i =
          let r = map_out (λ (a : Answer small). a.entry) (chosen C gs cs commit) e i in
          subst (λ (z : Entry ℕ). Touches (setting C) t z.group) (sym r.2)
          ((theirs r.0.entry.group).0 (in_group r.0 (only_in is_commit cs r.0 r.1).0))

      enough : (g : Group) → Touches (setting C) t g →
          length (from g (entries (chosen C gs cs commit))) ≡ suc C.faults
      enough g n = entries_from commit g cs ∙ just commit g (all_in (reached C cs commit) gs g h ((theirs g).1 n))

  abort_wrote : any (reached C cs abort) gs ≡ true →
      Certifies (setting C) t l (certify x abort (entries (chosen C gs cs abort)))
  abort_wrote h =
      wrote abort (votes abort g cs) (λ a i. let o = only_in (gives abort g) cs a i in let q = o.1 in
      (o.0, grind arith))
      (entries_rising (gives abort g) cs keeps.rises) (
        g,
        (theirs g).0 r.0,
        own,
        length-map (votes abort g cs) (λ (a : Answer small). a.entry) ∙
            just abort g r.1,
      )
    where
      g : Group
      g = first (reached C cs abort) gs

      r : In g gs × (reached C cs abort g ≡ true)
      r = first_is (reached C cs abort) gs h

      own : (e : Entry ℕ) → In e (entries (votes abort g cs)) → e.group ≡ g
      own e i =
          let q = map_out (λ (a : Answer small). a.entry) (votes abort g cs) e i in
          let p = (only_in (gives abort g) cs q.0 q.1).1 in
          let k : q.0.entry.group ≡ g = grind (arith, nat_tests) in
          ap (λ (z : Entry ℕ). z.group) q.2 ∙ k

  proper : (m : Message) → written C x gs cs (outcome C gs cs) ≡ some m → Certifies (setting C) t l m
  proper m w = go (any (reached C cs abort) gs) refl (all (reached C cs commit) gs) refl
    where
      go : (p : Bool) → any (reached C cs abort) gs ≡ p → (q : Bool) → all (reached C cs commit) gs ≡ q →
          Certifies (setting C) t l m
      go true hp q hq =
          let e : certify x abort (entries (chosen C gs cs abort)) ≡ m = cc in
          subst (Certifies (setting C) t l) e (abort_wrote hp)
      go false hp true hq =
          let e : certify x commit (entries (chosen C gs cs commit)) ≡ m = cc in
          subst (Certifies (setting C) t l) e (commit_wrote hq)
      go false hp false hq = let n : written C x gs cs (outcome C gs cs) ≡ none = cc in absurd (false≢true (cc))

  admits : (m : Message) (g : Group) (r : Replica) (v : Vote) → In g gs → r < C.replicas →
      Says (setting C) m g r v x → (number C x gs cs (answer_of m) ≡ 0) ⊎ (number C x gs cs (answer_of m) ≡ 17)
  admits m g r v i lt s =
      subst (λ o. (number C x gs cs o ≡ 0) ⊎ (number C x gs cs o ≡ 17)) (sym s.reads)
      (go (turn C x gs cs s.answer))
    where
      go : Turn C x gs cs s.answer →
          (answer_number C x gs cs s.answer ≡ 0) ⊎ (answer_number C x gs cs s.answer ≡ 17)
      go (counts e n ad ge un) = inl n
      go (refuses e f) = inr (f (says_addressed C x gs m g r v i lt s) (says_genuine C x gs m g r v i lt s)).0

pub small_tally_keeps_laws : SmallTallyKeepsLaws
unfolding cs
small_tally_keeps_laws C =
    record {
      closes = λ t gs o l h. let c = closed C t gs o.groups l h in (
        certify t.name c.0 (entries (chosen C gs (cs C t gs o.groups l) c.0)),
        ap (written C t.name gs (cs C t gs o.groups l)) c.1,
      );
      proper = λ t gs o l m w. proper C t gs o.groups l m w;
      admits = λ t gs o l e m g r v i lt s. admits C t gs o.groups l m g r v i lt s;
    }
