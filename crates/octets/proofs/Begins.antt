-- Bytes that begin with a writing, by the bytes that were read.
use Rattle.std.proofs.Common.{◌≡◌, ℕ, suc, ◌-◌, ◌≤◌, List, [], ◌∷◌, ◌++◌, length, get_or, take, drop, sym, refl, ap, ◌∙◌, arith}
use Rattle.std.proofs.lemmas.Slice.Eq.{HasBytesAt}
use Rattle.std.proofs.lemmas.Slice.{between_to_end}

shift : (x : ℕ) (s p : List ℕ) (i : ℕ) → HasBytesAt (x ∷ s) (suc i) p → HasBytesAt s i p
shift x s [] i h = tt
shift x s (c ∷ p) i h = (h.0, shift x s p (suc i) h.1)

front : (s p : List ℕ) → length p ≤ length s → HasBytesAt s 0 p → s ≡ p ++ drop (length p) s
front s [] l h = refl
front [] (c ∷ p) l h = absurd (omega arith)
front (x ∷ s) (c ∷ p) l h = cc (h.0, front s p (omega arith) (shift x s p 0 h.1))

-- s begins with p, and the part that follows is the rest, as a slice pattern cuts it off
pub begins : (s p : List ℕ) → length p ≤ length s → HasBytesAt s 0 p
    → s ≡ p ++ take (length s - length p) (drop (length p) s)
begins s p l h = front s p l h ∙ ap (λ t. p ++ t) (sym (between_to_end s (length p) (length s) (omega arith)))

-- the first byte and the rest
pub uncons : (s : List ℕ) → 1 ≤ length s → s ≡ get_or s 0 0 ∷ take (length s - 1) (drop 1 s)
uncons s l = begins s (get_or s 0 0 ∷ []) l (refl, tt)
