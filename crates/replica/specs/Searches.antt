-- Searches in a list.
use Rattle.std.specs.Prelude.{Bool, cond, List, [], ◌∷◌}

-- the list without the first member that passes
abbrev pub without : {X : Type 0} → (X → Bool) → List X → List X
without test [] = []
without test (x ∷ xs) = cond (test x) xs (x ∷ without test xs)
