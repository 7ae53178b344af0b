-- The small tally counts: inserted answers stay in order, and each answer is counted or comes too late.
use Rattle.std.proofs.Common.{◌≡◌, ℕ, suc, ◌≤◌, Bool, true, false, cond, ◌⊎◌, List, [], ◌∷◌, map, length, sym, refl, ap, ◌∙◌, subst, inl, inr, zero-le, arith}
use mathlib.Core.Bool.{false≢true}
use mathlib.Core.Option.{Option, none, some}
use native.Mathlib.Decide.{dec_lt}
use Rattle.std.proofs.lemmas.Bool.Decides.{nat_tests}
use Rattle.protocol.specs.Kinds.{Group}
use Rattle.protocol.specs.Lists.{In, only}
use Rattle.protocol.specs.Transactions.{Vote, commit, abort}
use Rattle.protocol.specs.Certificates.{Entry, Answer, Before, Rising}
use Rattle.protocol.specs.Tests.{any}
use Rattle.protocol.specs.SmallMessages.{Message, small, answer_of, Config}
use Rattle.protocol.specs.SmallStep.{earlier}
use Rattle.protocol.specs.SmallTally.{gives, votes, reached, outcome, is_closed, same_replica, late, addressed}
use Rattle.protocol.specs.SmallTally.{answer_number, insert, counted, fed}
use Rattle.protocol.proofs.Tests.{same, any_in, any_out, in_map, map_out}
use Rattle.protocol.proofs.SmallTests.{earlier_of}

abbrev pub entries : List (Answer small) → List (Entry ℕ)
entries cs = map (λ a. a.entry) cs

before_trans : (e d f : Entry ℕ) → Before e d → Before d f → Before e f
before_trans e d f (inl h) (inl k) = inl (omega arith)
before_trans e d f (inl h) (inr k) = let q = k.0 in inl (omega arith)
before_trans e d f (inr h) (inl k) = let p = h.0 in inl (omega arith)
before_trans e d f (inr h) (inr k) = let p = h.1 in let q = k.1 in inr (h.0 ∙ k.0, omega arith)

-- of two replicas, one stands before the other
before_other : (a b : Answer small) → earlier a.entry b.entry ≡ false → same_replica a b ≡ false →
    Before b.entry a.entry
before_other a b p q =
    elim (dec_lt b.entry.group a.entry.group) [
      | yes h ↦ inl h
      | no h ↦ inr (grind (arith, nat_tests), grind (arith, nat_tests))
    ]

-- insertion
module _ (a : Answer small) where
  insert_out : (cs : List (Answer small)) (x : Answer small) → In x (insert a cs) → (x ≡ a) ⊎ In x cs
  insert_out [] x (inl e) = inl e
  insert_out [] x (inr i) = absurd i
  insert_out (c ∷ cs) x i = go (insert_out cs x) (earlier a.entry c.entry) i
    where
      go : (In x (insert a cs) → (x ≡ a) ⊎ In x cs) → (d : Bool) → In x (cond d (a ∷ c ∷ cs) (c ∷ insert a cs)) →
          (x ≡ a) ⊎ In x (c ∷ cs)
      go rest true (inl e) = inl e
      go rest true (inr j) = inr j
      go rest false (inl e) = inr (inl e)
      go rest false (inr j) = elim (rest j) [ inl e ↦ inl e | inr k ↦ inr (inr k) ]

  insert_in : (cs : List (Answer small)) (x : Answer small) → (x ≡ a) ⊎ In x cs → In x (insert a cs)
  insert_in [] x (inl e) = inl e
  insert_in [] x (inr i) = absurd i
  insert_in (c ∷ cs) x i = go (insert_in cs x) (earlier a.entry c.entry) i
    where
      go : ((x ≡ a) ⊎ In x cs → In x (insert a cs)) → (d : Bool) → (x ≡ a) ⊎ In x (c ∷ cs) →
          In x (cond d (a ∷ c ∷ cs) (c ∷ insert a cs))
      go rest true (inl e) = inl e
      go rest true (inr j) = inr j
      go rest false (inl e) = inr (rest (inl e))
      go rest false (inr (inl e)) = inl e
      go rest false (inr (inr j)) = inr (rest (inr j))

  insert_rising : (cs : List (Answer small)) → Rising (entries cs) → any (same_replica a) cs ≡ false →
      Rising (entries (insert a cs))
  insert_rising [] up n = ((λ d i. absurd i), tt)
  insert_rising (c ∷ cs) up n =
      let p : same_replica a c ≡ false = grind arith in
      let q : any (same_replica a) cs ≡ false = grind arith in
      go p (insert_rising cs up.1 q) (earlier a.entry c.entry) refl
    where
      go : same_replica a c ≡ false → Rising (entries (insert a cs)) → (d : Bool) → earlier a.entry c.entry ≡ d →
          Rising (entries (cond d (a ∷ c ∷ cs) (c ∷ insert a cs)))
      go p rest true h = (
        λ d i. elim i [
          | inl e ↦ subst (Before a.entry) (sym e) (earlier_of a.entry c.entry h)
          | inr j ↦ before_trans a.entry c.entry d (earlier_of a.entry c.entry h) (up.0 d j)
        ],
        up,
      )
      go p rest false h = (
        λ d i.
            let r = map_out (λ (b : Answer small). b.entry) (insert a cs) d i in
            elim (insert_out cs r.0 r.1) [
              | inl e ↦
                  subst (Before c.entry) (sym (r.2 ∙ ap (λ (b : Answer small). b.entry) e))
                  (before_other a c h p)
              | inr j ↦
                  up.0 d (subst (λ z. In z (entries cs)) (sym r.2)
                  (in_map (λ (b : Answer small). b.entry) cs r.0 r.0.entry j refl))
            ],
        rest,
      )

  -- one more, if it passes the test
  insert_length : (f : Answer small → Bool) (cs : List (Answer small)) →
      length (only f (insert a cs)) ≡ cond (f a) (suc (length (only f cs))) (length (only f cs))
  insert_length f [] = go (f a)
    where
      go : (d : Bool) → length (cond d (a ∷ []) []) ≡ cond d 1 0
      go true = refl
      go false = refl
  insert_length f (c ∷ cs) = go (insert_length f cs) (earlier a.entry c.entry) (f a) refl (f c) refl
    where
      go : length (only f (insert a cs)) ≡ cond (f a) (suc (length (only f cs))) (length (only f cs)) →
          (d : Bool) → (k : Bool) → f a ≡ k → (l : Bool) → f c ≡ l →
          length (only f (cond d (a ∷ c ∷ cs) (c ∷ insert a cs))) ≡ cond (f a) (suc (length (only f (c ∷ cs))))
          (length (only f (c ∷ cs)))
      go rest true true p l q = cc
      go rest true false p l q = cc
      go rest false true p true q = cc
      go rest false true p false q = cc
      go rest false false p true q = cc
      go rest false false p false q = cc

-- what an answer does: it is counted, or it is refused
pub data Turn (C : Config) (x : ℕ) (gs : List Group) (cs : List (Answer small)) (a : Answer small) : Type 0 where
  counts : counted C x gs cs (some a) ≡ insert a cs → answer_number C x gs cs a ≡ 0 → addressed C x gs a ≡ true →
      C.genuine a.name a.vote a.entry ≡ true → late C gs cs a ≡ false → Turn C x gs cs a
  refuses : counted C x gs cs (some a) ≡ cs →
      (addressed C x gs a ≡ true → C.genuine a.name a.vote a.entry ≡ true →
      (answer_number C x gs cs a ≡ 17) × (late C gs cs a ≡ true)) →
      Turn C x gs cs a

-- what the counted answers keep, of the messages heard
pub record Kept (C : Config) (x : ℕ) (gs : List Group) (heard : List Message) (cs : List (Answer small)) : Type 0 where
  pub rises : Rising (entries cs)
  pub said : (a : Answer small) → In a cs →
      (m : Message) × In m heard × (answer_of m ≡ some a) × (addressed C x gs a ≡ true) ×
      (C.genuine a.name a.vote a.entry ≡ true)
  pub few : (v : Vote) (g : Group) → length (votes v g cs) ≤ suc C.faults

module _ (C : Config) (x : ℕ) (gs : List Group) where
  pub turn : (cs : List (Answer small)) (a : Answer small) → Turn C x gs cs a
  turn cs a = go (addressed C x gs a) refl (C.genuine a.name a.vote a.entry) refl (late C gs cs a) refl
    where
      go : (p : Bool) → addressed C x gs a ≡ p → (q : Bool) → C.genuine a.name a.vote a.entry ≡ q →
          (r : Bool) → late C gs cs a ≡ r → Turn C x gs cs a
      go false hp q hq r hr = let n : answer_number C x gs cs a ≡ 14 = cc in
          refuses (cc) (λ p q. absurd (false≢true (sym hp ∙ p)))
      go true hp false hq r hr = let n : answer_number C x gs cs a ≡ 15 = cc in
          refuses (cc) (λ p q. absurd (false≢true (sym hq ∙ q)))
      go true hp true hq true hr = let n : answer_number C x gs cs a ≡ 17 = cc in refuses (cc) (λ p q. (n, hr))
      go true hp true hq false hr = let n : answer_number C x gs cs a ≡ 0 = cc in counts (cc) n hp hq hr

  -- one vote more for each that it gives
  module _ (cs : List (Answer small)) (a : Answer small) where
    votes_more : (v : Vote) (g : Group) → gives v g a ≡ true →
        length (votes v g (insert a cs)) ≡ suc (length (votes v g cs))
    votes_more v g e = cc (insert_length a (gives v g) cs)

    votes_same : (v : Vote) (g : Group) → gives v g a ≡ false → length (votes v g (insert a cs)) ≡ length (votes v g cs)
    votes_same v g e = cc (insert_length a (gives v g) cs)

    reached_still : (v : Vote) (g : Group) → reached C cs v g ≡ true → reached C (insert a cs) v g ≡ true
    reached_still v g e = go (gives v g a) refl
      where
        go : (d : Bool) → gives v g a ≡ d → reached C (insert a cs) v g ≡ true
        go true h = let n = votes_more v g h in grind (arith, nat_tests)
        go false h = let n = votes_same v g h in cc

    -- what is late stays late
    late_still : (b : Answer small) → late C gs cs a ≡ false → late C gs cs b ≡ true → late C gs (insert a cs) b ≡ true
    late_still b n e =
        go (any (same_replica b) cs) refl (reached C cs commit b.entry.group) refl
        (reached C cs abort b.entry.group) refl
      where
        go : (d : Bool) → any (same_replica b) cs ≡ d → (f : Bool) → reached C cs commit b.entry.group ≡ f →
            (h : Bool) → reached C cs abort b.entry.group ≡ h → late C gs (insert a cs) b ≡ true
        go true hd f hf h hh =
            let r = any_out (same_replica b) cs hd in
            let k = any_in (same_replica b) (insert a cs) r.0 r.2 (insert_in a cs r.0 (inr r.1)) in
            grind arith
        go false hd true hf h hh = let k = reached_still commit b.entry.group hf in grind arith
        go false hd false hf true hh = let k = reached_still abort b.entry.group hh in grind arith
        go false hd false hf false hh = let k : is_closed (outcome C gs cs) ≡ false = grind arith in
            absurd (false≢true (grind arith))

    late_now : late C gs (insert a cs) a ≡ true
    late_now =
        let p = same a.entry.group in
        let q = same a.entry.replica in
        let k = any_in (same_replica a) (insert a cs) a (grind arith) (insert_in a cs a (inl refl)) in
        grind arith

  -- each answer that is addressed and genuine is late in the end
  late_fed : (l : List Message) (cs : List (Answer small)) (b : Answer small) → late C gs cs b ≡ true →
      late C gs (fed C x gs cs l) b ≡ true
  late_fed [] cs b h = h
  late_fed (m ∷ l) cs b h = late_fed l (counted C x gs cs (answer_of m)) b (go (answer_of m))
    where
      go : (o : Option (Answer small)) → late C gs (counted C x gs cs o) b ≡ true
      go none = h
      go (some a) = elim (turn cs a) [
        | counts e n ad ge un ↦ subst (λ z. late C gs z b ≡ true) (sym e) (late_still cs a b un h)
        | refuses e f ↦ subst (λ z. late C gs z b ≡ true) (sym e) h
      ]

  pub all_late : (l : List Message) (cs : List (Answer small)) (m : Message) (a : Answer small) → In m l →
      answer_of m ≡ some a → addressed C x gs a ≡ true → C.genuine a.name a.vote a.entry ≡ true →
      late C gs (fed C x gs cs l) a ≡ true
  all_late [] cs m a i r ad ge = absurd i
  all_late (n ∷ l) cs m a (inr i) r ad ge = all_late l (counted C x gs cs (answer_of n)) m a i r ad ge
  all_late (n ∷ l) cs m a (inl e) r ad ge =
      late_fed l (counted C x gs cs (answer_of n)) a
      (subst (λ o. late C gs (counted C x gs cs o) a ≡ true) (sym (ap answer_of (sym e) ∙ r)) (go (turn cs a)))
    where
      go : Turn C x gs cs a → late C gs (counted C x gs cs (some a)) a ≡ true
      go (counts e n ad ge un) = subst (λ z. late C gs z a ≡ true) (sym e) (late_now cs a)
      go (refuses e f) = subst (λ z. late C gs z a ≡ true) (sym e) (f ad ge).1

  -- counting keeps what is to be kept
  module _ (heard : List Message) where
    kept_empty : Kept C x gs heard []
    kept_empty = record { rises = tt; said = λ a i. absurd i; few = λ v g. zero-le }

    kept_insert : (cs : List (Answer small)) (m : Message) (a : Answer small) → Kept C x gs heard cs → In m heard →
        answer_of m ≡ some a → addressed C x gs a ≡ true → C.genuine a.name a.vote a.entry ≡ true →
        late C gs cs a ≡ false → Kept C x gs heard (insert a cs)
    kept_insert cs m a k i r ad ge un =
        let new : any (same_replica a) cs ≡ false = grind arith in
        record {
          rises = insert_rising a cs k.rises new;
          said = λ b j. elim (insert_out a cs b j) [
            | inl e ↦ (
              m,
              i,
              r ∙ ap some (sym e),
              subst (λ z. addressed C x gs z ≡ true) (sym e) ad,
              subst (λ (z : Answer small). C.genuine z.name z.vote z.entry ≡ true) (sym e) ge,
            )
            | inr o ↦ k.said b o
          ];
          few = λ v g. few v g (gives v g a) refl;
        }
      where
        unreached : (v : Vote) → reached C cs v a.entry.group ≡ false
        unreached commit = grind arith
        unreached abort = grind arith

        few : (v : Vote) (g : Group) (d : Bool) → gives v g a ≡ d → length (votes v g (insert a cs)) ≤ suc C.faults
        few v g true h =
            let n = votes_more cs a v g h in
            let here : g ≡ a.entry.group = grind (arith, nat_tests) in
            let less : reached C cs v g ≡ false = ap (reached C cs v) here ∙ unreached v in
            grind (arith, nat_tests)
        few v g false h = let n = votes_same cs a v g h in let old = k.few v g in omega arith

    kept_fed : (l : List Message) → ((m : Message) → In m l → In m heard) →
        (cs : List (Answer small)) → Kept C x gs heard cs → Kept C x gs heard (fed C x gs cs l)
    kept_fed [] sub cs k = k
    kept_fed (m ∷ l) sub cs k =
        kept_fed l (λ n i. sub n (inr i)) (counted C x gs cs (answer_of m)) (go (answer_of m) refl)
      where
        go : (o : Option (Answer small)) → answer_of m ≡ o → Kept C x gs heard (counted C x gs cs o)
        go none r = k
        go (some a) r = elim (turn cs a) [
          | counts e n ad ge un ↦ subst (Kept C x gs heard) (sym e) (kept_insert cs m a k (sub m (inl refl)) r ad ge un)
          | refuses e f ↦ subst (Kept C x gs heard) (sym e) k
        ]

  pub kept : (l : List Message) → Kept C x gs l (fed C x gs [] l)
  kept l = kept_fed l l (λ m i. i) [] (kept_empty l)
