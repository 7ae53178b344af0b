-- Bytes that begin alike.
use Rattle.std.proofs.Common.{◌≡◌, ℕ, List, [], ◌∷◌, ◌++◌, length, refl, arith}

-- fronts of one length are the same, and so is what follows them
pub same_front : (a b s t : List ℕ) → length a ≡ length b → a ++ s ≡ b ++ t → (a ≡ b) × (s ≡ t)
same_front [] [] s t l e = (refl, e)
same_front [] (y ∷ b) s t l e = absurd (omega arith)
same_front (x ∷ a) [] s t l e = absurd (omega arith)
same_front (x ∷ a) (y ∷ b) s t l e =
    let h = same_front a b s t (omega arith) (cc) in
    (cc h.0, h.1)
