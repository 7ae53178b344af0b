-- What one seal changes among the holders: the allowance of its own replica, and nothing else.
use Rattle.std.proofs.Common.{◌≡◌, ℕ, ◌+◌, ◌*◌, ◌<◌, Bool, true, false, cond, ◌&&◌, eqb, ltb, List, length, get_or, set, Some, None, Option, sym, refl, ap, ◌∙◌, ⊎_elim, arith, get_or-set_other, get_or-set_same}
use Rattle.std.specs.Str.{bytes_eq}
use Rattle.std.proofs.lemmas.Bool.{and_parts, cases_eq, ltb-true}
use Rattle.marks.specs.Seals.{no_holder, place_of, seal_at, seal_of, spent_at}
use Rattle.marks.specs.declared.seals.Holder.{Holder}
use Rattle.votes.specs.declared.statement.Statement.{Statement}

-- a replica that has a place, and where it is
place_is : (g r i : ℕ) → Some i ≡ place_of g r → (g < 8) × (r < 7) × (i ≡ 7 * g + r)
place_is g r i e = at (ltb g 8 && ltb r 7) refl where
  at : (t : Bool) → (ltb g 8 && ltb r 7) ≡ t → (g < 8) × (r < 7) × (i ≡ 7 * g + r)
  at true is =
      let some : Some i ≡ Some (7 * g + r) = e ∙ ap (λ b. cond b (Some (7 * g + r)) None) is in
      let same : i ≡ 7 * g + r = cc in
      let parts = and_parts (ltb g 8) (ltb r 7) is in
      (ltb-true g 8 parts.0, ltb-true r 7 parts.1, same)
  at false is =
      let none : Some i ≡ None = e ∙ ap (λ b. cond b (Some (7 * g + r)) None) is in
      let y : ◌≡◌ {A = ℕ} 0 1 = cc in
      absurd (omega arith)

module _ (hs : List Holder) (at : ℕ) (h : Holder) where
  pub spent_others : (g r g' r' : ℕ) → Some at ≡ place_of g' r' → ((g ≡ g') × (r ≡ r') → ⊥)
      → spent_at (set hs at h) (place_of g r) ≡ spent_at hs (place_of g r)
  spent_others g r g' r' is other = by (place_of g r) refl where
    by : (p : Option ℕ) → place_of g r ≡ p → spent_at (set hs at h) p ≡ spent_at hs p
    by None e = refl
    by (Some i) e =
        let a = place_is g r i (sym e) in
        let b = place_is g' r' at is in
        let apart : i ≡ at → ⊥ = λ same. other (omega (arith, a.0, a.1, a.2, b.0, b.1, b.2), omega (arith, a.0, a.1, a.2, b.0, b.1, b.2)) in
        ap (λ x. eqb x.allowance 0) (get_or-set_other hs at i h no_holder apart)

  -- the keys stay, so what is a seal stays one
  pub seals_stay : at < length hs → h.key ≡ (get_or hs at no_holder).key → (p : Option ℕ) (t : Statement) (m : List ℕ)
      → seal_at (set hs at h) p t m ≡ seal_at hs p t m
  seals_stay low key None t m = refl
  seals_stay low key (Some i) t m =
      ap (λ k. bytes_eq (seal_of k t) m)
      (⊎_elim
      (λ same. ap (λ j. (get_or (set hs at h) j no_holder).key) same ∙ ap (λ x. x.key) (get_or-set_same hs at h no_holder low) ∙ key
      ∙ ap (λ j. (get_or hs j no_holder).key) (sym same))
      (λ apart. ap (λ x. x.key) (get_or-set_other hs at i h no_holder apart))
      (cases_eq i at))
