-- Lists: members, and lists that grow at their front.
use Rattle.std.specs.Prelude.{◌≡◌, Bool, cond, ◌⊎◌, List, [], ◌∷◌}

-- x stands in the list
abbrev pub In : {A : Type 0} → A → List A → Type 0
In x [] = ⊥
In x (y ∷ ys) = (x ≡ y) ⊎ In x ys

-- nothing stands in the list twice
abbrev pub Distinct : {A : Type 0} → List A → Type 0
Distinct [] = Unit {0}
Distinct (x ∷ xs) = (In x xs → ⊥) × Distinct xs

-- those that pass a test, in their order
abbrev pub only : {A : Type 0} → (A → Bool) → List A → List A
only f [] = []
only f (x ∷ xs) = cond (f x) (x ∷ only f xs) (only f xs)

-- of lists with the newest in front, a later one has newer members in front of an earlier one, or is the same
pub data Since {A : Type 0} (then : List A) : List A → Type 0 where
  now : Since then then
  newer : {a : A} {l : List A} → Since then l → Since then (a ∷ l)
