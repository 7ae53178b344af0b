-- Runs made longer: a message is posted to some groups and delivered to their replicas.
use Rattle.std.proofs.Common.{◌≡◌, ℕ, zero, suc, ◌+◌, ◌≤◌, Bool, true, false, cond, ◌&&◌, eqb, List, [], ◌∷◌, ◌++◌, length, sym, refl, ap, ◌∙◌, subst, inl, inr, zero-le, le_trans, le_refl, arith, length-append}
use mathlib.Core.Option.{none}
use Rattle.protocol.specs.Kinds.{Kinds, Group, Replica}
use Rattle.protocol.specs.Lists.{In, Distinct, Since, now, newer}
use Rattle.protocol.specs.Replicas.{System}
use Rattle.protocol.specs.Runs.{Event, post, deliver, other, Run, posts, passed}
use Rattle.protocol.specs.Assumptions.{Assumptions}
use Rattle.protocol.specs.Ending.{Passing}
use Rattle.protocol.specs.Moves.{deliveries}
use Rattle.protocol.proofs.Lists.{since_tail, since_trans}
use Rattle.protocol.proofs.Tests.{same, differ}
use Rattle.protocol.proofs.Runs.{length_since}
use Rattle.protocol.proofs.Assumptions.{Given, alone_none, assumed_post, assumed_deliver}
use Rattle.protocol.proofs.Passing.{Passed, passes}

-- the moment before m was posted to g
record PostedOnce {K : Kinds} (run later : Run K) (g : Group) (m : K.Message) : Type 0 where
  at : Run K
  after : Since run at
  until : Since (post g m ∷ at) later
  same_posts : posts at g ≡ posts run g

module _ {K : Kinds} where
  -- m posted to each group of a list
  abbrev post_all : K.Message → List Group → Run K → Run K
  post_all m [] run = run
  post_all m (g ∷ gs) run = post g m ∷ post_all m gs run

  post_all_since : (m : K.Message) (gs : List Group) (run : Run K) → Since run (post_all m gs run)
  post_all_since m [] run = now
  post_all_since m (g ∷ gs) run = newer (post_all_since m gs run)

  post_all_posts : (m : K.Message) (gs : List Group) (run : Run K) (g : Group) → (In g gs → ⊥) →
      posts (post_all m gs run) g ≡ posts run g
  post_all_posts m [] run g n = refl
  post_all_posts m (h ∷ gs) run g n =
      ap (λ b. cond b (posts (post_all m gs run) g ++ (m ∷ [])) (posts (post_all m gs run) g))
      (differ h g (λ e. n (inl (sym e)))) ∙
      post_all_posts m gs run g (λ i. n (inr i))

  posted_once : (m : K.Message) (gs : List Group) (run : Run K) (g : Group) → Distinct gs → In g gs →
      PostedOnce run (post_all m gs run) g m
  posted_once m [] run g d i = absurd i
  posted_once m (h ∷ gs) run g d (inl e) =
      record {
        at = post_all m gs run;
        after = post_all_since m gs run;
        until = subst (λ z. Since (post z m ∷ post_all m gs run) (post h m ∷ post_all m gs run)) (sym e) now;
        same_posts = post_all_posts m gs run g (λ i. d.0 (subst (λ z. In z gs) e i));
      }
  posted_once m (h ∷ gs) run g d (inr i) =
      let p = posted_once m gs run g d.1 i in
      record { at = p.at; after = p.after; until = newer p.until; same_posts = p.same_posts }

  post_all_assumed : (S : System K) (m : K.Message) (gs : List Group) (run : Run K) → Assumptions S run →
      ((later : Run K) → Since run later → Given S later m) → S.set.body m ≡ none → Assumptions S (post_all m gs run)
  post_all_assumed S m [] run k given n = k
  post_all_assumed S m (g ∷ gs) run k given n =
      assumed_post S (post_all m gs run) g m (post_all_assumed S m gs run k given n)
      (given (post_all m gs run) (post_all_since m gs run))
      (alone_none S (post_all m gs run) m n)

  -- k deliveries to each of the listed replicas
  abbrev again : ℕ → Group → Replica → Run K → Run K
  again zero g r run = run
  again (suc k) g r run = deliver g r ∷ again k g r run

  abbrev serve : ℕ → List (Group × Replica) → Run K → Run K
  serve k [] run = run
  serve k (p ∷ ps) run = again k p.0 p.1 (serve k ps run)

  -- what deliveries keep
  module _ (P : Run K → Type 0) (step : (h : Group) (q : Replica) (l : Run K) → P l → P (deliver h q ∷ l)) where
    again_keeps : (k : ℕ) (g : Group) (r : Replica) (run : Run K) → P run → P (again k g r run)
    again_keeps zero g r run p = p
    again_keeps (suc k) g r run p = step g r (again k g r run) (again_keeps k g r run p)

    serve_keeps : (k : ℕ) (ps : List (Group × Replica)) (run : Run K) → P run → P (serve k ps run)
    serve_keeps k [] run p = p
    serve_keeps k (q ∷ ps) run p = again_keeps k q.0 q.1 (serve k ps run) (serve_keeps k ps run p)

  -- how many they are
  module _ (g : Group) (r : Replica) where
    at_least : (b : ℕ) (h : Group) (q : Replica) (l : Run K) → b ≤ deliveries l g r →
        b ≤ deliveries (deliver h q ∷ l) g r
    at_least b h q l m = go (eqb h g && eqb q r)
      where
        go : (c : Bool) → b ≤ cond c (suc (deliveries l g r)) (deliveries l g r)
        go true = omega arith
        go false = m

    again_counts : (j : ℕ) (run : Run K) → deliveries (again j g r run) g r ≡ j + deliveries run g r
    again_counts zero run = omega arith
    again_counts (suc j) run =
        let e : (eqb g g && eqb r r) ≡ true = cc (same g, same r) in
        let one = ap (λ b. cond b (suc (deliveries (again j g r run) g r)) (deliveries (again j g r run) g r)) e in
        omega (arith, one, again_counts j run)

    serve_many : (k : ℕ) (ps : List (Group × Replica)) (run : Run K) → In (g, r) ps →
        deliveries run g r + k ≤ deliveries (serve k ps run) g r
    serve_many k [] run i = absurd i
    serve_many k (p ∷ ps) run (inl e) =
        let low =
        serve_keeps (λ l. deliveries run g r ≤ deliveries l g r) (at_least (deliveries run g r)) k ps run (le_refl _) in
        subst (λ (z : Group × Replica). deliveries run g r + k ≤ deliveries
        (again k z.0 z.1 (serve k ps run)) g r) e
        (omega (arith, again_counts k (serve k ps run), low))
    serve_many k (p ∷ ps) run (inr i) =
        again_keeps (λ l. deliveries run g r + k ≤ deliveries l g r) (at_least (deliveries run g r + k)) k p.0
        p.1 (serve k ps run)
        (serve_many k ps run i)

  deliveries_since : {past run : Run K} → Since past run → (g : Group) (r : Replica) →
      deliveries past g r ≤ deliveries run g r
  deliveries_since now g r = le_refl _
  deliveries_since (newer {a = e} {l = run} s) g r = le_trans (deliveries_since s g r) (grow e)
    where
      grow : (e : Event K) → deliveries run g r ≤ deliveries (e ∷ run) g r
      grow (post h m) = le_refl _
      grow (deliver h q) = at_least g r (deliveries run g r) h q run (le_refl _)
      grow other = le_refl _

  -- a group has no more messages than there were events
  posts_length : (run : Run K) (g : Group) → length (posts run g) ≤ length run
  posts_length [] g = zero-le
  posts_length (post h m ∷ run) g = go (posts_length run g) (eqb h g)
    where
      go : length (posts run g) ≤ length run →
          (b : Bool) → length (cond b (posts run g ++ (m ∷ [])) (posts run g)) ≤ suc (length run)
      go rest true = omega (arith, length-append (posts run g) (m ∷ []))
      go rest false = omega arith
  posts_length (deliver h q ∷ run) g = omega (arith, posts_length run g)
  posts_length (other ∷ run) g = omega (arith, posts_length run g)

-- m posted to the groups, and delivered to the listed replicas
module _ {K : Kinds} (m : K.Message) (gs : List Group) (ps : List (Group × Replica)) (run : Run K) where
  abbrev enough : ℕ
  enough = suc (length (post_all m gs run))

  abbrev pub spread_out : Run K
  spread_out = serve enough ps (post_all m gs run)

  on : Since (post_all m gs run) spread_out
  on = serve_keeps (Since (post_all m gs run)) (λ h q l s. newer s) enough ps (post_all m gs run) now

  pub spread_since : Since run spread_out
  spread_since = since_trans (post_all_since m gs run) on

  pub spread_assumed : (S : System K) → Assumptions S run → ((later : Run K) → Since run later → Given S later m) →
      S.set.body m ≡ none → Assumptions S spread_out
  spread_assumed S k given n =
      serve_keeps (Assumptions S) (λ h q l s. assumed_deliver S l h q s) enough ps (post_all m gs run)
      (post_all_assumed S m gs run k given n)

  -- each of them passes it, after all that was posted before
  pub spread_passed : Distinct gs → (g : Group) (r : Replica) → In g gs → In (g, r) ps →
      (p : Passing run spread_out g r m) × (passed p.at g r ≡ posts run g)
  spread_passed d g r i j = (
    record { at = p.0.at; after = since_trans o.after p.0.after; until = p.0.until; over = p.0.over },
    p.1 ∙ o.same_posts,
  )
    where
      o : PostedOnce run (post_all m gs run) g m
      o = posted_once m gs run g d i

      old : Since o.at (post_all m gs run)
      old = since_tail (post g m) o.at o.until

      p : Passed o.at g r m spread_out
      p =
          passes o.at g r m spread_out (since_trans o.until on)
          (omega (
            arith,
            deliveries_since old g r,
            length_since old g,
            posts_length (post_all m gs run) g,
            serve_many g r enough ps (post_all m gs run) j,
          ))
