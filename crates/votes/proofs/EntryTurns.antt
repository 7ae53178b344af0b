-- The entries of a certificate, tested for their marks and for their order.
use Rattle.std.proofs.Common.{◌≡◌, ℕ, zero, suc, ◌+◌, ◌<◌, ◌≤◌, true, false, Bool, ltb, List, [], ◌∷◌, map, length, get_or, refl, arith}
use Rattle.std.specs.List.{AllAdjacentBelow, AllByRecursion, IsAllAdjacentAnswer}
use Rattle.std.proofs.lemmas.Bool.{and_from, eq-eqb, le-leb}
use Rattle.std.proofs.lemmas.Bool.Decides.{nat_tests}
use native.Mathlib.Numerals.{unary_clauses}
use Rattle.votes.specs.Entries.{EntryFits, EntryModel, all_wide, rank, rises, shown}
use Rattle.votes.specs.declared.entry.Entry.{Entry}

-- whether an entry stands before another
abbrev pub before : Entry → Entry → Bool
before a b = ltb (rank (shown a)) (rank (shown b))

-- the first entry is high enough, and each stands before the next
up : (least : ℕ) (e : Entry) (es : List Entry) → least ≤ rank (shown e) →
    AllAdjacentBelow (λ a b. true ≡ before a b) (e ∷ es) (length (e ∷ es)) → true ≡ rises least (map shown (e ∷ es))
up least e [] low next = cc (le-leb _ _ low)
up least e (f ∷ es) low next =
    let here : rank (shown e) + 1 ≤ rank (shown f) = grind (arith, nat_tests, next 0 f (omega arith)) in
    let there = up (rank (shown e) + 1) f es here (λ k d l. simp unary_clauses (simp unary_clauses at (next (suc k) d (omega arith)))) in
    cc (le-leb _ _ low)

-- one does not stand before the next
down : (least : ℕ) (es : List Entry) (k : ℕ) → k + 1 < length es →
    ((d : Entry) → false ≡ before (get_or es k d) (get_or es (k + 1) d)) → false ≡ rises least (map shown es)
down least [] k l not = absurd (omega arith)
down least (e ∷ []) k l not = absurd (omega arith)
down least (e ∷ f ∷ es) zero l not = grind (arith, nat_tests, not f)
down least (e ∷ f ∷ es) (suc k) l not =
    let there = down (rank (shown e) + 1) (f ∷ es) k (omega arith) (λ d. simp unary_clauses (simp unary_clauses at (not d))) in
    grind (arith, there)

pub rises_is : (r : Bool) (es : List Entry) → IsAllAdjacentAnswer (λ a b r. r ≡ before a b) es r → r ≡ rises 0 (map shown es)
rises_is true [] next = refl
rises_is true (e ∷ es) next = up 0 e es (omega arith) next
rises_is false es next = down 0 es next.0 next.1 next.2

-- marks of m bytes are all wide
pub wide_from : (m : ℕ) (es : List EntryModel) → AllByRecursion (EntryFits m) es → all_wide m es ≡ true
wide_from m [] fit = refl
wide_from m (e ∷ es) fit = and_from _ _ (eq-eqb _ _ fit.0.mark_fits) (wide_from m es fit.1)
