-- The order explains the rows.
use Rattle.std.proofs.Common.{◌≡◌, ℕ, zero, suc, ◌≤◌, Bool, true, false, ◌≢◌, List, [], ◌∷◌, ◌++◌, take, sym, refl, ap, ◌∙◌, subst, inl, inr, le_trans, arith}
use mathlib.Core.Bool.{false≢true}
use mathlib.Core.Option.{Option, none, some}
use Rattle.protocol.specs.Kinds.{Kinds, Group, Replica, Value}
use Rattle.protocol.specs.Lists.{In, Since, now, newer}
use Rattle.protocol.specs.Transactions.{Txn, Names, by_compare, by_write, Writes, written}
use Rattle.protocol.specs.Conflicts.{Touches, Conflict, Passes}
use Rattle.protocol.specs.Replicas.{Status, absent, pending, committed, System, status_of, rows_of}
use Rattle.protocol.specs.Quorums.{HonestAt}
use Rattle.protocol.specs.Steps.{Laws}
use Rattle.protocol.specs.Runs.{Run, posts, place, status_at, row_at}
use Rattle.protocol.specs.Register.{register}
use Rattle.protocol.specs.Order.{is_committed, committed_of, Stands}
use Rattle.protocol.proofs.Lists.{either, take_next, since_tail, since_in}
use Rattle.protocol.proofs.Statuses.{Origin, origin, still_committed}
use Rattle.protocol.proofs.Pending.{Pends, CommitHop, commits_none, commits_one, commit_hop, steady_at, sound_at}
use Rattle.protocol.proofs.Runs.{place_le, passed_since}
use Rattle.protocol.proofs.Commits.{is_committed_lem}
use Rattle.protocol.proofs.Snapshots.{Snapshot, Inv}

module _ {K : Kinds} where
  committed_same : (a b : K.Name → Status K) (ts : List (Txn K)) →
      ((t : Txn K) → In t ts → is_committed (a t.name) ≡ is_committed (b t.name)) →
      committed_of a ts ≡ committed_of b ts
  committed_same a b [] h = refl
  committed_same a b (t ∷ ts) h =
      let here = h t (inl refl) in
      let rest = committed_same a b ts (λ u i. h u (inr i)) in
      cc

  committed_none : (a : K.Name → Status K) (ts : List (Txn K)) → ((x : K.Name) → a x ≡ absent) → committed_of a ts ≡ []
  committed_none a [] h = refl
  committed_none a (t ∷ ts) h = let rest = committed_none a ts h in cc (h t.name)

-- of two writes, only one of which is at the key, either can come first
swap : (a b o : Option Value) → ((v w : Value) → a ≡ some v → b ≡ some w → ⊥) →
    written a (written b o) ≡ written b (written a o)
swap none b o h = refl
swap (some v) none o h = refl
swap (some v) (some w) o h = absurd (h v w refl refl)

-- to feed the writers of k alone is enough
fill : {K : Kinds} (S : System K) (k : K.Key) (a : K.Name → Status K) (ts : List (Txn K)) →
    ((u : Txn K) → In u ts → Writes u k → a u.name ≡ committed) → register S (committed_of a ts) k ≡ register S ts k
fill S k a [] h = refl
fill {K} S k a (t ∷ ts) h = go (fill S k a ts (λ u i. h u (inr i))) (is_committed (a t.name)) refl (t.writes k) refl
  where
    go : register S (committed_of a ts) k ≡ register S ts k → (b : Bool) → is_committed (a t.name) ≡ b →
        (w : Option Value) → t.writes k ≡ w → register S (committed_of a (t ∷ ts)) k ≡ register S (t ∷ ts) k
    go rest true c w e = cc
    go rest false c none e = cc
    go rest false c (some v) e = cc (h t (inl refl) (v, e))

-- names stand once in a list
abbrev Once : {K : Kinds} → List (Txn K) → Type 0
Once {K} ts = (u : Txn K) (before : List (Txn K)) → Since (u ∷ before) ts → (w : Txn K) → In w before →
    w.name ≢ u.name

-- a transaction that is committed takes its place in the order, if no committed one after it writes at the key that
-- it writes
module _ {K : Kinds} (S : System K) (a b : K.Name → Status K) (t : Txn K) (was : a t.name ≡ pending t)
    (is : b t.name ≡ committed) (others : (y : K.Name) → y ≢ t.name → b y ≡ a y) (k : K.Key) where
  abbrev Apart : List (Txn K) → Type 0
  Apart ts =
      (u : Txn K) (before : List (Txn K)) → Since (u ∷ before) ts → In t before → a u.name ≡ committed →
      (v w : Value) → u.writes k ≡ some v → t.writes k ≡ some w → ⊥

  insert : (ts : List (Txn K)) → In t ts → Once ts → Apart ts →
      register S (committed_of b ts) k ≡ written (t.writes k) (register S (committed_of a ts) k)
  insert [] i once apart = absurd i
  insert (u ∷ ts) (inl e) once apart =
      let same =
      committed_same b a ts
      (λ w i. ap is_committed (others w.name (λ q. once u ts now w i (q ∙ ap (λ (z : Txn K). z.name) e)))) in
      cc
  insert (u ∷ ts) (inr i) once apart =
      go (insert ts i (λ v before s. once v before (newer s)) (λ v before s. apart v before (newer s)))
      (is_committed (a u.name)) refl
    where
      keeps : b u.name ≡ a u.name
      keeps = others u.name (λ q. once u ts now t i (sym q))

      go : register S (committed_of b ts) k ≡ written (t.writes k) (register S (committed_of a ts) k) →
          (c : Bool) → is_committed (a u.name) ≡ c →
          register S (committed_of b (u ∷ ts)) k ≡ written (t.writes k) (register S (committed_of a (u ∷ ts)) k)
      go rest false e = cc (keeps)
      go rest true e =
          let turned =
          swap (u.writes k) (t.writes k) (register S (committed_of a ts) k)
          (apart u ts now i (is_committed_lem (a u.name) e)) in
          cc (keeps)

-- the messages of one group
module _ {K : Kinds} (S : System K) (run : Run K) (g : Group) where
  abbrev upto : ℕ → List K.Message
  upto p = take p (posts run g)

  abbrev at : ℕ → K.Name → Status K
  at p x = status_of S g (upto p) x

  -- the status after one more message
  abbrev then : ℕ → K.Message → K.Name → Status K
  then p m x = status_of S g (upto p ++ (m ∷ [])) x

  -- the plain register, fed with what is committed
  abbrev fed : (K.Name → Status K) → List (Txn K) → K.Key → Option Value
  fed status ts k = register S (committed_of status ts) k

  -- an order with its snapshots
  module _ (laws : Laws S) (ord : List (Txn K)) (inv : Inv S run ord) where
    -- what is committed at a place does not follow in the order what is pending there and conflicts with it
    no_later : (p : ℕ) (t w : Txn K) (before : List (Txn K)) → Stands w before ord → In t before →
        Pends S g (upto p) t → at p w.name ≡ committed → Conflict S.set g w t → ⊥
    no_later p t w before s i pt cw c =
        let k = inv.snap w before s g (c.key, c.homed, c.left) in
        let stays = still_committed S laws g (posts run g) in
        elim (either p k.spot) [
          | inl le ↦ let e = stays p k.spot le w.name cw in false≢true (cc k.pends)
          | inr ge ↦ let e = stays k.spot p ge t.name (k.earlier t i c) in false≢true (cc)
        ]

    -- how one message changes the rows, and what is committed
    row_step : (p : ℕ) (m : K.Message) → CommitHop S g (upto p) m →
        ((t : Txn K) → Pends S g (upto p) t → then p m t.name ≡ committed → In t ord) →
        (k : K.Key) → S.set.home k ≡ g → rows_of S g (upto p) k ≡ fed (at p) ord k →
        rows_of S g (upto p ++ (m ∷ [])) k ≡ fed (then p m) ord k
    row_step p m (commits_none same rows) mem k hk ih =
        let d = committed_same (then p m) (at p) ord (λ t i. same t.name) in
        cc (rows k hk)
    row_step p m (commits_one u a turn rows) mem k hk ih =
        let i = insert S (at p) (then p m) u a turn.becomes turn.others k ord (mem u a turn.becomes)
        inv.once apart in
        cc (rows k hk)
      where
        apart : Apart S (at p) (then p m) u a turn.becomes turn.others k ord
        apart w before s i cw v x wv ux =
            no_later p u w before s i a cw
            (record { key = k; homed = hk; left = by_write v wv; right = by_write x ux; write = inl (v, wv) })

    -- at a place that an honest replica has reached, the rows are those of the register fed with what is committed
    -- there
    module _ (r : Replica) (hon : HonestAt S.set g r) where
      joined : (p : ℕ) → suc p ≤ place run g r → (t : Txn K) → Pends S g (upto p) t →
          at (suc p) t.name ≡ committed → In t ord
      joined p le t pt ct =
          let o = subst (Origin S (posts run g) t.name) pt (origin S laws g (posts run g) p t.name) in
          let c = still_committed S laws g (posts run g) (suc p) (place run g r) le t.name ct in
          (inv.holds t).1 (g, r, record { honest = hon; posted = o.1; done = c })

      pub row_at_lem : (p : ℕ) → p ≤ place run g r → (k : K.Key) → S.set.home k ≡ g →
          rows_of S g (upto p) k ≡ fed (at p) ord k
      row_at_lem zero le k hk = let none_yet = committed_none (status_of S g []) ord (laws.starts g) in cc
      row_at_lem (suc p) le k hk =
          let n = take_next (posts run g) p (le_trans le (place_le run g r)) in
          subst (λ l. rows_of S g l k ≡ fed (status_of S g l) ord k) (sym n.2)
          (row_step p n.0 (commit_hop S laws g (upto p) n.0)
          (λ t pt ct. joined p le t pt (subst (λ l. status_of S g l t.name ≡ committed) (sym n.2) ct))
          k hk (row_at_lem p (omega arith) k hk))

    -- at a place where t is pending, what follows t in the order has written no key of t
    skip : (p : ℕ) (t : Txn K) (before : List (Txn K)) → Pends S g (upto p) t → (k : K.Key) → S.set.home k ≡ g →
        Names t k → {ts : List (Txn K)} → Since (t ∷ before) ts → Since ts ord → fed (at p) ts k ≡ fed (at p) before k
    skip p t before pt k hk nk now s = cc
    skip p t before pt k hk nk (newer {a = w} {l = ts} after) s =
        go (skip p t before pt k hk nk after (since_tail w ts s)) (is_committed (at p w.name)) refl (w.writes k) refl
      where
        go : fed (at p) ts k ≡ fed (at p) before k → (b : Bool) → is_committed (at p w.name) ≡ b →
            (o : Option Value) → w.writes k ≡ o → fed (at p) (w ∷ ts) k ≡ fed (at p) before k
        go rest false e o q = cc
        go rest true e none q = cc
        go rest true e (some v) q =
            absurd (no_later p t w ts s (since_in t before after) pt (is_committed_lem (at p w.name) e)
            (record { key = k; homed = hk; left = by_write v q; right = nk; write = inl (v, q) }))

    module _ (t : Txn K) (before : List (Txn K)) (s : Stands t before ord) (n : Touches S.set t g) where
      abbrev shot : Snapshot S run g t before
      shot = inv.snap t before s g n

      -- the rows of t's snapshot are those of the plain register just before t
      shot_row : (k : K.Key) → S.set.home k ≡ g → Names t k → rows_of S g (upto shot.spot) k ≡ register S before k
      shot_row k hk nk =
          row_at_lem shot.replica shot.honest shot.spot shot.reached k hk ∙
          skip shot.spot t before shot.pends k hk nk s now ∙
          fill S k (at shot.spot) before
          (λ u i w. shot.earlier u i
          (record { key = k; homed = hk; left = nk; right = by_write w.0 w.1; write = inr w }))

      -- so t passes its checks there
      pub register_passes : Passes S.set g t (register S before)
      register_passes =
          let p = sound_at S laws g (posts run g) shot.spot t shot.pends in
          record {
            rowed = λ k hk nk. let r = p.rowed k hk nk in (r.0, sym (shot_row k hk nk) ∙ r.1);
            equal = λ k v hk e. sym (shot_row k hk (by_compare v e)) ∙ p.equal k v hk e;
          }

      -- and t sees them wherever it is pending
      pub sees : (past : Run K) → Since past run → (r : Replica) → status_at S past g r t.name ≡ pending t →
          (k : K.Key) → S.set.home k ≡ g → Names t k → row_at S past g r k ≡ register S before k
      sees past sp r e k hk nk =
          let same = passed_since sp g r in
          let here = subst (λ l. Pends S g l t) (sym same) e in
          let rows = steady_at S laws g (posts run g) t shot.spot (place past g r) shot.pends here k hk nk in
          subst (λ l. rows_of S g l k ≡ rows_of S g (upto shot.spot) k) same rows ∙ shot_row k hk nk
