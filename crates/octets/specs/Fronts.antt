-- What it is to read something off the front of some bytes: to find the one thing that is written there.
use Rattle.std.specs.Prelude.{◌≡◌, ℕ, List, ◌++◌, Some, None, Option, ◌≢◌}
use Rattle.std.specs.Borrow.{Bor}

-- bs begins with the writing of the thing that was read, and the rest follows; or bs begins with no writing
abbrev pub Front : {X : Type 0} → (X → Type 0) → (X → List ℕ) → List ℕ → Option (X × Bor (List ℕ)) → Type 0
Front fits writing bs (Some p) = fits p.0 × (bs ≡ writing p.0 ++ p.1.now)
Front {X} fits writing bs None = (x : X) (rest : List ℕ) → fits x → bs ≢ writing x ++ rest
