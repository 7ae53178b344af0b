-- One group: pending transactions do not conflict, they pass their checks, and the rows at their keys stand still.
use Rattle.std.proofs.Common.{◌≡◌, ℕ, zero, ◌≤◌, ◌≢◌, ◌⊎◌, List, [], ◌∷◌, ◌++◌, take, sym, refl, ap, ◌∙◌, subst, inl, inr, zero-le}
use mathlib.Core.Bool.{false≢true}
use mathlib.Core.Option.{Option, none, some}
use Rattle.protocol.specs.Kinds.{Kinds, Group, Value}
use Rattle.protocol.specs.Lists.{In}
use Rattle.protocol.specs.Transactions.{Txn, Names, by_compare, by_write, written}
use Rattle.protocol.specs.Conflicts.{Conflict, Passes}
use Rattle.protocol.specs.Replicas.{Status, absent, pending, committed, rolled_back, declined, System, status_of, rows_of}
use Rattle.protocol.specs.Steps.{Change, stays, enters, declines, commits, rolls_back, Turns, RowsStay, RowsTake, Laws}
use Rattle.protocol.specs.Order.{is_committed}
use Rattle.protocol.proofs.Lists.{along, either}
use Rattle.protocol.proofs.Statuses.{Later, Later-refl, Later-trans, Hop, keeps, entered, refused, done, undone, hop}
use Rattle.protocol.proofs.Statuses.{hop_later}

-- a row without a write stays
no_write : (o w : Option Value) (P : Type 0) → (P → ⊥) → ((v : Value) → w ≡ some v → P) → written w o ≡ o
no_write o none P n f = refl
no_write o (some v) P n f = absurd (n (f v refl))

-- a message commits nothing, or just one transaction, whose writes the rows take
pub data CommitHop {K : Kinds} (S : System K) (g : Group) (l : List K.Message) (m : K.Message) : Type 0 where
  commits_none : ((x : K.Name) → is_committed (status_of S g (l ++ (m ∷ [])) x) ≡ is_committed (status_of S g l x)) →
      RowsStay S.set g (S.view g l) (S.view g (l ++ (m ∷ []))) → CommitHop S g l m
  commits_one : (u : Txn K) → status_of S g l u.name ≡ pending u →
      Turns (S.view g l) (S.view g (l ++ (m ∷ []))) u.name committed →
      RowsTake S.set g (S.view g l) (S.view g (l ++ (m ∷ []))) u → CommitHop S g l m

module _ {K : Kinds} (S : System K) (g : Group) where
  abbrev pub Pends : List K.Message → Txn K → Type 0
  Pends l t = status_of S g l t.name ≡ pending t

  abbrev pub Clear : List K.Message → Type 0
  Clear l = (t u : Txn K) → Pends l t → Pends l u → t.name ≢ u.name → Conflict S.set g t u → ⊥

  abbrev pub Sound : List K.Message → Type 0
  Sound l = (t : Txn K) → Pends l t → Passes S.set g t (rows_of S g l)

  flip : (a b : Txn K) → Conflict S.set g a b → Conflict S.set g b a
  flip a b c =
      record {
        key = c.key;
        homed = c.homed;
        left = c.right;
        right = c.left;
        write = elim c.write [ inl w ↦ inr w | inr w ↦ inl w ];
      }

-- the message m makes t pending
record Opened {K : Kinds} (S : System K) (g : Group) (l : List K.Message) (m : K.Message) (t : Txn K) : Type 0 where
  body : S.set.body m ≡ some t
  fresh : status_of S g l t.name ≡ absent
  clear : (u : Txn K) → status_of S g l u.name ≡ pending u → Conflict S.set g t u → ⊥
  pass : Passes S.set g t (rows_of S g (l ++ (m ∷ [])))

module _ {K : Kinds} (S : System K) (laws : Laws S) (g : Group) where
  pub commit_hop : (l : List K.Message) (m : K.Message) → CommitHop S g l m
  commit_hop l m = go (laws.moves g l m)
    where
      turned : (y : K.Name) (s : Status K) → Turns (S.view g l) (S.view g (l ++ (m ∷ []))) y s →
          is_committed s ≡ is_committed (status_of S g l y) →
          (x : K.Name) → is_committed (status_of S g (l ++ (m ∷ [])) x) ≡ is_committed (status_of S g l x)
      turned y s turn e x =
          elim (laws.names x y) [ yes n ↦ cc turn.becomes | no n ↦ ap is_committed (turn.others x n) ]

      go : Change S.set g (S.view g l) m (S.view g (l ++ (m ∷ []))) → CommitHop S g l m
      go (stays same rows) = commits_none (λ x. ap is_committed (same x)) rows
      go (enters t b a clear pass turn rows) = commits_none (turned t.name (pending t) turn (cc)) rows
      go (declines y a turn rows) = commits_none (turned y declined turn (cc)) rows
      go (commits u a q turn rows) = commits_one u a turn rows
      go (rolls_back u a q turn rows) = commits_none (turned u.name rolled_back turn (cc)) rows

  -- what is pending was pending before the message, or was opened by it
  back : (l : List K.Message) (m : K.Message) (t : Txn K) → Pends S g (l ++ (m ∷ [])) t →
      Pends S g l t ⊎ Opened S g l m t
  back l m t h = go (hop S laws g l m t.name)
    where
      go : Hop S g l m t.name → Pends S g l t ⊎ Opened S g l m t
      go (keeps e) = inl (sym e ∙ h)
      go (entered u b n a clear pass e) =
          let ut : u ≡ t = cc in
          inr (subst (Opened S g l m) ut
          (record { body = b; fresh = ap (status_of S g l) n ∙ a; clear = clear; pass = pass }))
      go (refused a e) = absurd (false≢true (cc))
      go (done u n a q e) = absurd (false≢true (cc))
      go (undone u n a q e) = absurd (false≢true (cc))

  clear_step : (l : List K.Message) (m : K.Message) → Clear S g l → Clear S g (l ++ (m ∷ []))
  clear_step l m h t u pt pu ne k =
      elim (back l m t pt) [
        | inl ot ↦ elim (back l m u pu) [ inl ou ↦ h t u ot ou ne k | inr nu ↦ nu.clear t ot (flip S g t u k) ]
        | inr nt ↦ elim (back l m u pu) [
          | inl ou ↦ nt.clear u ou k
          | inr nu ↦ let tu : t ≡ u = cc (nt.body, nu.body) in ne (ap (λ (x : Txn K). x.name) tu)
        ]
      ]

  -- while t is pending, the rows at its keys stand still
  steady : (l : List K.Message) (m : K.Message) → Clear S g l → (t : Txn K) → Pends S g l t →
      Pends S g (l ++ (m ∷ [])) t → (k : K.Key) → S.set.home k ≡ g → Names t k →
      rows_of S g (l ++ (m ∷ [])) k ≡ rows_of S g l k
  steady l m h t p q k hk nk = go (commit_hop l m)
    where
      go : CommitHop S g l m → rows_of S g (l ++ (m ∷ [])) k ≡ rows_of S g l k
      go (commits_none same rows) = rows k hk
      go (commits_one u a turn rows) =
          rows k hk ∙
          no_write (rows_of S g l k) (u.writes k) (Conflict S.set g t u)
          (h t u p a (λ e. false≢true (cc turn.becomes)))
          (λ v w. record { key = k; homed = hk; left = nk; right = by_write v w; write = inr (v, w) })

  sound_step : (l : List K.Message) (m : K.Message) → Clear S g l → Sound S g l → Sound S g (l ++ (m ∷ []))
  sound_step l m h s t q =
      elim (back l m t q) [
        | inl p ↦
            let old = s t p in
            record {
              rowed = λ k hk nk. let r = old.rowed k hk nk in (r.0, steady l m h t p q k hk nk ∙ r.1);
              equal = λ k v hk e. steady l m h t p q k hk (by_compare v e) ∙ old.equal k v hk e;
            }
        | inr o ↦ o.pass
      ]

  module _ (L : List K.Message) where
    pub clear_at : (p : ℕ) → Clear S g (take p L)
    clear_at p =
        along (Clear S g) L (λ l m i h. clear_step l m h) zero p zero-le
        (λ t u pt pu ne k. false≢true (cc (laws.starts g t.name)))

    pub sound_at : (p : ℕ) → Sound S g (take p L)
    sound_at p = (along (λ l. Clear S g l × Sound S g l) L step zero p zero-le start).1
      where
        step : (l : List K.Message) (m : K.Message) → In m L → Clear S g l × Sound S g l →
            Clear S g (l ++ (m ∷ [])) × Sound S g (l ++ (m ∷ []))
        step l m i h = (clear_step l m h.0, sound_step l m h.0 h.1)

        start : Clear S g [] × Sound S g []
        start = (clear_at zero, λ t pt. absurd (false≢true (cc (laws.starts g t.name))))

    -- from one place at which t is pending to another, the rows at its keys are the same
    steady_up : (t : Txn K) (p q : ℕ) → p ≤ q → Pends S g (take p L) t → Pends S g (take q L) t →
        (k : K.Key) → S.set.home k ≡ g → Names t k → rows_of S g (take q L) k ≡ rows_of S g (take p L) k
    steady_up t p q pq pp qq k hk nk =
        (along Keeps L step p q pq (clear_at p, Later-refl (status_of S g (take p L) t.name), λ _. refl)).2 qq
      where
        Keeps : List K.Message → Type 0
        Keeps l =
            Clear S g l × Later (status_of S g (take p L) t.name) (status_of S g l t.name) ×
            (Pends S g l t → rows_of S g l k ≡ rows_of S g (take p L) k)

        step : (l : List K.Message) (m : K.Message) → In m L → Keeps l → Keeps (l ++ (m ∷ []))
        step l m i h = (
          clear_step l m h.0,
          Later-trans (status_of S g (take p L) t.name) (status_of S g l t.name)
              (status_of S g (l ++ (m ∷ [])) t.name) h.1
              (hop_later S laws g l m t.name),
          λ new. elim (back l m t new) [
            | inl old ↦ steady l m h.0 t old new k hk nk ∙ h.2 old
            | inr o ↦ absurd (lost (subst (λ s. Later s (status_of S g l t.name)) pp h.1) o.fresh)
          ],
        )
          where
            lost : Later (pending t) (status_of S g l t.name) → status_of S g l t.name ≡ absent → ⊥
            lost (inl a) b = false≢true (cc)
            lost (inr (inl a)) b = false≢true (cc)
            lost (inr (inr a)) b = false≢true (cc)

    pub steady_at : (t : Txn K) (p q : ℕ) → Pends S g (take p L) t → Pends S g (take q L) t →
        (k : K.Key) → S.set.home k ≡ g → Names t k → rows_of S g (take q L) k ≡ rows_of S g (take p L) k
    steady_at t p q pp qq k hk nk =
        elim (either p q)
        [ inl pq ↦ steady_up t p q pq pp qq k hk nk | inr qp ↦ sym (steady_up t q p qp qq pp k hk nk) ]
