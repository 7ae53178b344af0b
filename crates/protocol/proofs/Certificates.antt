-- A valid certificate bears its quorums.
use Rattle.std.proofs.Common.{◌≡◌, suc, ◌<◌, Bool, true, false, cond, eqb, List, [], ◌∷◌, map, length, sym, refl, subst, inl, inr, arith}
use mathlib.Core.Option.{some}
use lib.ListN.{length-map}
use Rattle.protocol.specs.Kinds.{Kinds, Group}
use Rattle.protocol.specs.Lists.{In, Distinct, only}
use Rattle.protocol.specs.Transactions.{Vote, commit, abort, Txn}
use Rattle.protocol.specs.Certificates.{Entry, Certificate, Before, Rising, from}
use Rattle.protocol.specs.Settings.{Setting}
use Rattle.protocol.specs.Quorums.{Quorum, CommitQuorums, AbortQuorum, Spread, Valid}
use Rattle.protocol.proofs.Tests.{eq_of, map_out}
use Rattle.protocol.proofs.Counting.{only_in}

module _ {Mark : Type 0} where
  only_rising : (f : Entry Mark → Bool) (es : List (Entry Mark)) → Rising es → Rising (only f es)
  only_rising f [] up = tt
  only_rising f (e ∷ es) up = go (only_rising f es up.1) (f e)
    where
      go : Rising (only f es) → (b : Bool) → Rising (cond b (e ∷ only f es) (only f es))
      go rest true = (λ d i. up.0 d (only_in f es d i).0, rest)
      go rest false = rest

  -- the entries of one group are of distinct replicas
  rising_distinct : (g : Group) (es : List (Entry Mark)) → Rising es → ((e : Entry Mark) → In e es → e.group ≡ g) →
      Distinct (map (λ e. e.replica) es)
  rising_distinct g [] up h = tt
  rising_distinct g (e ∷ es) up h = (
    (λ i. let r = map_out (λ (d : Entry Mark). d.replica) es e.replica i in
        apart r.0 r.1 r.2 (up.0 r.0 r.1)),
    rising_distinct g es up.1 (λ d i. h d (inr i)),
  )
    where
      apart : (d : Entry Mark) → In d es → e.replica ≡ d.replica → Before e d → ⊥
      apart d i q (inl k) = let he = h e (inl refl) in let hd = h d (inr i) in omega arith
      apart d i q (inr k) = let l = k.1 in omega arith

module _ {K : Kinds} (W : Setting K) (m : K.Message) (t : Txn K) (c : Certificate K)
    (reads : W.certificate m ≡ some c) (ok : Valid W t c) where
  -- f + 1 of the entries, all of one group, are a quorum
  quorum : (v : Vote) → c.vote ≡ v → (g : Group) (es : List (Entry K.Mark)) → Rising es →
      ((e : Entry K.Mark) → In e es → In e c.entries × (e.group ≡ g)) → length es ≡ suc W.faults →
      Quorum W m g v t.name
  quorum v cv g es up theirs len =
      record {
        replicas = map (λ e. e.replica) es;
        distinct = rising_distinct g es up (λ e i. (theirs e i).1);
        there = λ r i.
            let o = map_out (λ (e : Entry K.Mark). e.replica) es r i in
            subst (λ q. q < W.replicas) (sym o.2) (ok.marked o.0 (theirs o.0 o.1).0).0;
        many = let l = length-map es (λ (e : Entry K.Mark). e.replica) in omega arith;
        marked = λ r i.
            let o = map_out (λ (e : Entry K.Mark). e.replica) es r i in
            let q = theirs o.0 o.1 in
            record {
              certificate = c;
              reads = reads;
              named = ok.named;
              voted = cv;
              entry = o.0;
              stands = q.0;
              group = q.1;
              replica = sym o.2;
              genuine = subst (λ w. W.genuine t.name w o.0 ≡ true) cv
                  (subst (λ x. W.genuine x c.vote o.0 ≡ true) ok.named (ok.marked o.0 q.0).1);
            };
      }

  pub valid_commit : c.vote ≡ commit → CommitQuorums W m t
  valid_commit v g n =
      let s = subst (λ w. Spread W t w c.entries) v ok.spread in
      quorum commit v g (from g c.entries) (only_rising (λ e. eqb g e.group) c.entries ok.rises)
      (λ e i. let o = only_in (λ (e : Entry K.Mark). eqb g e.group) c.entries e i in
      (o.0, sym (eq_of g e.group o.1))) (s.1 g n)

  pub valid_abort : c.vote ≡ abort → AbortQuorum W m t
  valid_abort v =
      let s = subst (λ w. Spread W t w c.entries) v ok.spread in
      (s.0, s.1, quorum abort v s.0 c.entries ok.rises (λ e i. (i, s.2 e i)) s.3)
