-- One group: how messages change the status of a name. Votes are final, and places on one list can be compared.
use Rattle.std.proofs.Common.{◌≡◌, ℕ, zero, ◌≤◌, ◌⊎◌, List, [], ◌∷◌, ◌++◌, take, sym, refl, ap, ◌∙◌, subst, inl, inr, zero-le}
use mathlib.Core.Option.{some}
use Rattle.protocol.specs.Kinds.{Kinds, Group}
use Rattle.protocol.specs.Lists.{In}
use Rattle.protocol.specs.Transactions.{Vote, Txn}
use Rattle.protocol.specs.Conflicts.{Conflict, Passes}
use Rattle.protocol.specs.Replicas.{Status, absent, pending, committed, rolled_back, declined, vote_of, System}
use Rattle.protocol.specs.Replicas.{status_of, rows_of}
use Rattle.protocol.specs.Quorums.{CommitQuorums, AbortQuorum}
use Rattle.protocol.specs.Steps.{Change, stays, enters, declines, commits, rolls_back, Turns, Laws}
use Rattle.protocol.proofs.Lists.{along, either}

-- the status b can follow the status a
abbrev pub Later : {K : Kinds} → Status K → Status K → Type 0
Later absent b = Unit {0}
Later (pending t) b = (b ≡ pending t) ⊎ ((b ≡ committed) ⊎ (b ≡ rolled_back))
Later committed b = b ≡ committed
Later rolled_back b = b ≡ rolled_back
Later declined b = b ≡ declined

module _ {K : Kinds} where
  pub Later-refl : (a : Status K) → Later a a
  Later-refl absent = tt
  Later-refl (pending t) = inl refl
  Later-refl committed = refl
  Later-refl rolled_back = refl
  Later-refl declined = refl

  pub Later-trans : (a b c : Status K) → Later a b → Later b c → Later a c
  Later-trans absent b c h k = tt
  Later-trans (pending t) b c (inl e) k = subst (λ s. Later s c) e k
  Later-trans (pending t) b c (inr (inl e)) k = inr (inl (subst (λ s. Later s c) e k))
  Later-trans (pending t) b c (inr (inr e)) k = inr (inr (subst (λ s. Later s c) e k))
  Later-trans committed b c h k = subst (λ s. Later s c) h k
  Later-trans rolled_back b c h k = subst (λ s. Later s c) h k
  Later-trans declined b c h k = subst (λ s. Later s c) h k

  -- votes are final
  pub Later-vote : (a b : Status K) (v : Vote) → Later a b → vote_of a ≡ some v → vote_of b ≡ some v
  Later-vote absent b v h e = cc
  Later-vote (pending t) b v (inl k) e = cc
  Later-vote (pending t) b v (inr (inl k)) e = cc
  Later-vote (pending t) b v (inr (inr k)) e = cc
  Later-vote committed b v h e = cc
  Later-vote rolled_back b v h e = cc
  Later-vote declined b v h e = cc

-- what the message m, after the messages l, does to the name x
pub data Hop {K : Kinds} (S : System K) (g : Group) (l : List K.Message) (m : K.Message) (x : K.Name) : Type 0 where
  keeps : status_of S g (l ++ (m ∷ [])) x ≡ status_of S g l x → Hop S g l m x
  entered : (t : Txn K) → S.set.body m ≡ some t → t.name ≡ x → status_of S g l x ≡ absent →
      ((u : Txn K) → status_of S g l u.name ≡ pending u → Conflict S.set g t u → ⊥) →
      Passes S.set g t (rows_of S g (l ++ (m ∷ []))) → status_of S g (l ++ (m ∷ [])) x ≡ pending t → Hop S g l m x
  refused : status_of S g l x ≡ absent → status_of S g (l ++ (m ∷ [])) x ≡ declined → Hop S g l m x
  done : (t : Txn K) → t.name ≡ x → status_of S g l x ≡ pending t → CommitQuorums S.set m t →
      status_of S g (l ++ (m ∷ [])) x ≡ committed → Hop S g l m x
  undone : (t : Txn K) → t.name ≡ x → status_of S g l x ≡ pending t → AbortQuorum S.set m t →
      status_of S g (l ++ (m ∷ [])) x ≡ rolled_back → Hop S g l m x

module _ {K : Kinds} (S : System K) where
  -- where a status comes from: a body among the messages L, and for an end a certificate
  abbrev pub PostedIn : List K.Message → Txn K → Type 0
  PostedIn L t = (m : K.Message) × In m L × (S.set.body m ≡ some t)

  abbrev pub Origin : List K.Message → K.Name → Status K → Type 0
  Origin L x absent = Unit {0}
  Origin L x (pending t) = (t.name ≡ x) × PostedIn L t
  Origin L x committed = (t : Txn K) × (t.name ≡ x) × PostedIn L t ×
      ((m : K.Message) × In m L × CommitQuorums S.set m t)
  Origin L x rolled_back = (t : Txn K) × (t.name ≡ x) × PostedIn L t ×
      ((m : K.Message) × In m L × AbortQuorum S.set m t)
  Origin L x declined = Unit {0}

module _ {K : Kinds} (S : System K) (laws : Laws S) (g : Group) where
  hop_by : (l : List K.Message) (m : K.Message) → Change S.set g (S.view g l) m (S.view g (l ++ (m ∷ []))) →
      (x : K.Name) → Hop S g l m x
  hop_by l m c x = go c
    where
      -- the name that turns, or another
      at : (y : K.Name) (s : Status K) → Turns (S.view g l) (S.view g (l ++ (m ∷ []))) y s →
          (y ≡ x → status_of S g (l ++ (m ∷ [])) x ≡ s → Hop S g l m x) → Hop S g l m x
      at y s turn f =
          elim (laws.names x y) [
            | yes e ↦ f (sym e) (ap (status_of S g (l ++ (m ∷ []))) e ∙ turn.becomes)
            | no ne ↦ keeps (turn.others x ne)
          ]

      before : (y : K.Name) (s : Status K) → y ≡ x → status_of S g l y ≡ s → status_of S g l x ≡ s
      before y s e h = cc

      go : Change S.set g (S.view g l) m (S.view g (l ++ (m ∷ []))) → Hop S g l m x
      go (stays same rows) = keeps (same x)
      go (enters t b a clear pass turn rows) =
          at t.name (pending t) turn (λ e p. entered t b e (before t.name absent e a) clear
          (record {
            rowed = λ k hk nk. let r = pass.rowed k hk nk in (r.0, rows k hk ∙ r.1);
            equal = λ k v hk h. rows k hk ∙ pass.equal k v hk h;
          }) p)
      go (declines y a turn rows) = at y declined turn (λ e p. refused (before y absent e a) p)
      go (commits t a q turn rows) =
          at t.name committed turn (λ e p. done t e (before t.name (pending t) e a) q p)
      go (rolls_back t a q turn rows) =
          at t.name rolled_back turn (λ e p. undone t e (before t.name (pending t) e a) q p)

  pub hop : (l : List K.Message) (m : K.Message) (x : K.Name) → Hop S g l m x
  hop l m x = hop_by l m (laws.moves g l m) x

  pub hop_later : (l : List K.Message) (m : K.Message) (x : K.Name) →
      Later (status_of S g l x) (status_of S g (l ++ (m ∷ [])) x)
  hop_later l m x = go (hop l m x)
    where
      from : (s : Status K) → status_of S g l x ≡ s → Later s (status_of S g (l ++ (m ∷ [])) x) →
          Later (status_of S g l x) (status_of S g (l ++ (m ∷ [])) x)
      from s e h = subst (λ z. Later z (status_of S g (l ++ (m ∷ [])) x)) (sym e) h

      go : Hop S g l m x → Later (status_of S g l x) (status_of S g (l ++ (m ∷ [])) x)
      go (keeps e) = subst (Later (status_of S g l x)) (sym e) (Later-refl (status_of S g l x))
      go (entered t b n a c p e) = from absent a tt
      go (refused a e) = from absent a tt
      go (done t n a c e) = from (pending t) a (inr (inl e))
      go (undone t n a c e) = from (pending t) a (inr (inr e))

  hop_origin : (L l : List K.Message) (m : K.Message) → In m L → (x : K.Name) → Origin S L x (status_of S g l x) →
      Origin S L x (status_of S g (l ++ (m ∷ [])) x)
  hop_origin L l m i x o = go (hop l m x)
    where
      to : (s : Status K) → status_of S g (l ++ (m ∷ [])) x ≡ s → Origin S L x s →
          Origin S L x (status_of S g (l ++ (m ∷ [])) x)
      to s e h = subst (Origin S L x) (sym e) h

      go : Hop S g l m x → Origin S L x (status_of S g (l ++ (m ∷ [])) x)
      go (keeps e) = to (status_of S g l x) e o
      go (entered t b n a c p e) = to (pending t) e (n, (m, i, b))
      go (refused a e) = to declined e tt
      go (done t n a q e) = let p = subst (Origin S L x) a o in to committed e (t, n, p.1, (m, i, q))
      go (undone t n a q e) = let p = subst (Origin S L x) a o in to rolled_back e (t, n, p.1, (m, i, q))

  module _ (L : List K.Message) where
    -- the status of x at the place p of the list
    abbrev pub at : ℕ → K.Name → Status K
    at p x = status_of S g (take p L) x

    pub later : (p q : ℕ) → p ≤ q → (x : K.Name) → Later (at p x) (at q x)
    later p q pq x = along (λ l. Later (at p x) (status_of S g l x)) L step p q pq (Later-refl (at p x))
      where
        step : (l : List K.Message) (m : K.Message) → In m L → Later (at p x) (status_of S g l x) →
            Later (at p x) (status_of S g (l ++ (m ∷ [])) x)
        step l m i h = Later-trans (at p x) (status_of S g l x) (status_of S g (l ++ (m ∷ [])) x) h (hop_later l m x)

    pub origin : (p : ℕ) (x : K.Name) → Origin S L x (at p x)
    origin p x =
        along (λ l. Origin S L x (status_of S g l x)) L (λ l m i h. hop_origin L l m i x h) zero p zero-le
        (subst (Origin S L x) (sym (laws.starts g x)) tt)

    -- two places of one list gave the same vote on a name
    pub same_vote : (p q : ℕ) (x : K.Name) (v w : Vote) → vote_of (at p x) ≡ some v → vote_of (at q x) ≡ some w → v ≡ w
    same_vote p q x v w hv hw =
        elim (either p q) [
          | inl pq ↦ let e = Later-vote (at p x) (at q x) v (later p q pq x) hv in cc
          | inr qp ↦ let e = Later-vote (at q x) (at p x) w (later q p qp x) hw in cc
        ]

    pub still_committed : (p q : ℕ) → p ≤ q → (x : K.Name) → at p x ≡ committed → at q x ≡ committed
    still_committed p q pq x e = subst (λ s. Later s (at q x)) e (later p q pq x)

    pub still_rolled_back : (p q : ℕ) → p ≤ q → (x : K.Name) → at p x ≡ rolled_back → at q x ≡ rolled_back
    still_rolled_back p q pq x e = subst (λ s. Later s (at q x)) e (later p q pq x)
