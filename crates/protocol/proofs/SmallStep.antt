-- The small step keeps the laws.
use Rattle.std.proofs.Common.{◌≡◌, ℕ, Bool, true, false, cond, eqb, ◌≢◌, List, [], ◌∷◌, sym, refl, ap, ◌∙◌, subst, inl, inr, arith}
use mathlib.Core.Bool.{false≢true}
use mathlib.Core.Option.{Option, none, some}
use native.Mathlib.Decide.{ℕ_discrete}
use Rattle.protocol.specs.Kinds.{Group, Value}
use Rattle.protocol.specs.Lists.{In}
use Rattle.protocol.specs.Transactions.{Vote, commit, abort, Txn}
use Rattle.protocol.specs.Certificates.{Entry, Certificate}
use Rattle.protocol.specs.Conflicts.{Conflict}
use Rattle.protocol.specs.Replicas.{Status, absent, pending, committed, rolled_back, declined}
use Rattle.protocol.specs.Quorums.{Valid}
use Rattle.protocol.specs.Steps.{Turns, Change, stays, enters, declines, commits, rolls_back, Heard, end_of, Settled}
use Rattle.protocol.specs.Tests.{any, all}
use Rattle.protocol.specs.SmallMessages.{Body, Message, begin, propose, certify, reply, small, txn, Config, setting}
use Rattle.protocol.specs.SmallStep.{End, taken, dropped, refused, Ended, State, find, end_status, ended_as, waiting_or}
use Rattle.protocol.specs.SmallStep.{status, room, read, clashes, passes, admissible, groups_of, valid, remove}
use Rattle.protocol.specs.SmallStep.{decline, accept, end_with, close, judge, is_absent, is_new, step, machine}
use Rattle.protocol.specs.SmallStep.{SmallStepKeepsLaws}
use Rattle.protocol.proofs.Tests.{eq_of, same, differ, any_none}
use Rattle.protocol.proofs.Certificates.{valid_commit, valid_abort}
use Rattle.protocol.proofs.Folds.{folds_are_lawful}
use Rattle.protocol.proofs.SmallTests.{clear, all_pass, groups_of_lem, valid_of, valid_is}

-- the pending bodies and the names that have ended
find_some : (x : ℕ) (bs : List Body) (b : Body) → find x bs ≡ some b → In b bs × (x ≡ b.name)
find_some x [] b e = absurd (false≢true (cc))
find_some x (c ∷ bs) b e = go (find_some x bs b) (eqb x c.name) refl
  where
    go : (find x bs ≡ some b → In b bs × (x ≡ b.name)) → (d : Bool) → eqb x c.name ≡ d →
        In b (c ∷ bs) × (x ≡ b.name)
    go rest true h = let cb : b ≡ c = cc in (inl cb, eq_of x c.name h ∙ ap (λ (z : Body). z.name) (sym cb))
    go rest false h = let r = rest (cc) in (inr r.0, r.1)

find_removed : (x : ℕ) (bs : List Body) → find x (remove x bs) ≡ none
find_removed x [] = refl
find_removed x (b ∷ bs) = go (find_removed x bs) (eqb x b.name) refl
  where
    go : find x (remove x bs) ≡ none → (d : Bool) → eqb x b.name ≡ d → find x (remove x (b ∷ bs)) ≡ none
    go rest true h = cc
    go rest false h = cc

find_other : (x y : ℕ) (bs : List Body) → y ≢ x → find y (remove x bs) ≡ find y bs
find_other x y [] n = refl
find_other x y (b ∷ bs) n = go (find_other x y bs n) (eqb x b.name) refl
  where
    go : find y (remove x bs) ≡ find y bs → (d : Bool) → eqb x b.name ≡ d →
        find y (remove x (b ∷ bs)) ≡ find y (b ∷ bs)
    go rest true h = cc (differ y b.name (λ q. n (q ∙ sym (eq_of x b.name h))))
    go rest false h = cc

ended_not_pending : (x : ℕ) (es : List Ended) (t : Txn small) → ended_as x es ≡ pending t → ⊥
ended_not_pending x [] t e = false≢true (cc)
ended_not_pending x (c ∷ es) t e = go (ended_not_pending x es t) (eqb x c.name) refl c.end refl
  where
    go : (ended_as x es ≡ pending t → ⊥) → (d : Bool) → eqb x c.name ≡ d → (f : End) → c.end ≡ f → ⊥
    go rest true h taken q = false≢true (cc)
    go rest true h dropped q = false≢true (cc)
    go rest true h refused q = false≢true (cc)
    go rest false h f q = rest (cc)

absent_is : (s : Status small) → is_absent s ≡ true → s ≡ absent
absent_is absent e = refl
absent_is (pending t) e = cc
absent_is committed e = cc
absent_is rolled_back e = cc
absent_is declined e = cc

not_waiting : (o : Option Body) (s : Status small) → waiting_or o s ≡ absent → o ≡ none
not_waiting none s e = refl
not_waiting (some b) s e = cc

module _ (C : Config) (g : Group) (s : State) where
  abbrev Changes : Message → State → Type 0
  Changes m new = Change (setting C) g (read C s) m (read C new)

  still : (m : Message) → Changes m s
  still m = stays (λ x. refl) (λ k h. refl)

  new_is : (x : ℕ) → is_new C s x ≡ true → status s x ≡ absent
  new_is x e = let a : is_absent (status s x) ≡ true = grind arith in absent_is (status s x) a

  declining : (m : Message) (x : ℕ) → is_new C s x ≡ true → Changes m (decline x s)
  declining m x e =
      let none_yet = not_waiting (find x s.waiting) (ended_as x s.ended) (new_is x e) in
      declines x (new_is x e) (record { becomes = cc (same x); others = λ y n. cc (differ y x n) }) (λ k h. refl)

  opening : (b : Body) → is_new C s b.name ≡ true → admissible C g s b ≡ true → Changes (begin b) (accept b s)
  opening b e w =
      let c : any (clashes C g b) s.waiting ≡ false = grind arith in
      let p : all (passes C g s.rows) b.operations ≡ true = grind arith in
      enters (txn b) refl (new_is b.name e) (free c) (all_pass C g b s.rows p)
      (record { becomes = cc (same b.name); others = λ y n. cc (differ y b.name n) }) (λ k h. refl)
    where
      free : any (clashes C g b) s.waiting ≡ false → (u : Txn small) → status s u.name ≡ pending u →
          Conflict (setting C) g (txn b) u → ⊥
      free c u p k = go (find u.name s.waiting) refl
        where
          go : (o : Option Body) → find u.name s.waiting ≡ o → ⊥
          go none f = ended_not_pending u.name s.ended u (cc)
          go (some d) f =
              let du : u ≡ txn d = cc in
              clear C g b d (any_none (clashes C g b) s.waiting d c (find_some u.name s.waiting d f).0)
              (subst (Conflict (setting C) g (txn b)) du k)

  closing : (b : Body) (f : End) (rows : ℕ → Option Value) →
      Turns (read C s) (read C (end_with f rows b s)) b.name (end_status f)
  closing b f rows =
      record {
        becomes = cc (find_removed b.name s.waiting, same b.name);
        others = λ y n. cc (find_other b.name y s.waiting n, differ y b.name n);
      }

  ending : (b : Body) (x : ℕ) (v : Vote) (es : List (Entry ℕ)) → find x s.waiting ≡ some b →
      valid C (groups_of C b) x v es ≡ true → Changes (certify x v es) (close v b s)
  ending b x v es e h = go v refl
    where
      xb : x ≡ b.name
      xb = (find_some x s.waiting b e).1

      was : status s b.name ≡ pending (txn b)
      was = cc (xb)

      ok : Valid (setting C) (txn b) (record { name = x; vote = v; entries = es })
      ok = valid_of C (txn b) (groups_of C b) (groups_of_lem C b) es x v xb h

      go : (w : Vote) → v ≡ w → Changes (certify x v es) (close w b s)
      go commit vw =
          commits (txn b) was
          (valid_commit (setting C) (certify x v es) (txn b)
          (record { name = x; vote = v; entries = es }) refl ok vw)
          (closing b taken (close commit b s).rows) (λ k h. refl)
      go abort vw =
          rolls_back (txn b) was
          (valid_abort (setting C) (certify x v es) (txn b)
          (record { name = x; vote = v; entries = es }) refl ok vw)
          (closing b dropped s.rows) (λ k h. refl)

  moves : (m : Message) → Changes m (step C g s m)
  moves (reply x v e) = still (reply x v e)
  moves (propose x) = go (is_new C s x) refl
    where
      go : (b : Bool) → is_new C s x ≡ b → Changes (propose x) (cond b (decline x s) s)
      go true e = declining (propose x) x e
      go false e = still (propose x)
  moves (begin b) = go (is_new C s b.name) refl (admissible C g s b) refl
    where
      go : (d : Bool) → is_new C s b.name ≡ d → (w : Bool) → admissible C g s b ≡ w →
          Changes (begin b) (cond d (cond w (accept b s) (decline b.name s)) s)
      go true e true f = opening b e f
      go true e false f = declining (begin b) b.name e
      go false e w f = still (begin b)
  moves (certify x v es) = go (find x s.waiting) refl
    where
      go : (o : Option Body) → find x s.waiting ≡ o → Changes (certify x v es) (judge C x v es o s)
      go none e = still (certify x v es)
      go (some b) e = test (valid C (groups_of C b) x v es) refl
        where
          test : (d : Bool) → valid C (groups_of C b) x v es ≡ d → Changes (certify x v es) (cond d (close v b s) s)
          test true f = ending b x v es e f
          test false f = still (certify x v es)

  -- a proposal makes its name known, if the book has room
  hears : (m : Message) → Heard (setting C) (read C s) m (read C (step C g s m))
  hears (begin b) x p r = absurd (false≢true (cc))
  hears (certify y v es) x p r = absurd (false≢true (cc))
  hears (reply y v e) x p r = absurd (false≢true (cc))
  hears (propose y) x p r = go (is_new C s y) refl
    where
      go : (d : Bool) → is_new C s y ≡ d → status (cond d (decline y s) s) x ≢ absent
      go true e a = false≢true (cc (not_waiting (find y s.waiting) (ended_as y s.ended) (new_is y e), same y))
      go false e a =
          let n : is_absent (status s y) ≡ true = cc in
          let q : room C s ≡ true = grind arith in
          false≢true (cc)

  -- and a valid certificate ends what is pending
  settles : (m : Message) → Settled (setting C) (read C s) m (read C (step C g s m))
  settles (begin b) t c is ok p = absurd (false≢true (cc))
  settles (propose x) t c is ok p = absurd (false≢true (cc))
  settles (reply x v e) t c is ok p = absurd (false≢true (cc))
  settles (certify x v es) t c is ok p =
      subst (λ (z : Certificate small). status (judge C x v es (find x s.waiting) s) t.name ≡ end_of z.vote)
      here (go (find x s.waiting) refl)
    where
      here : record { name = x; vote = v; entries = es } ≡ c
      here = cc

      go : (o : Option Body) → find x s.waiting ≡ o → status (judge C x v es o s) t.name ≡ end_of v
      go none e = absurd (ended_not_pending t.name s.ended t (cc))
      go (some b) e =
          let h = valid_is C (txn b) (groups_of C b) (groups_of_lem C b) es x v
          (subst (λ (u : Txn small). Valid (setting C) u (record { name = x; vote = v; entries = es })) tb
          (subst (Valid (setting C) t) (sym here) ok)) in
          cc (h, ends v)
        where
          tb : t ≡ txn b
          tb = cc

          ends : (w : Vote) → status (close w b s) t.name ≡ end_of w
          ends commit = cc (closing b taken (close commit b s).rows).becomes
          ends abort = cc (closing b dropped s.rows).becomes

pub small_step_keeps_laws : SmallStepKeepsLaws
small_step_keeps_laws C =
    folds_are_lawful small State (machine C)
    (record {
      names = ℕ_discrete;
      starts = λ g x. refl;
      moves = λ g s m h. moves C g s m;
      hears = λ g s m h. hears C g s m;
      settles = λ g s m h. settles C g s m;
    })
