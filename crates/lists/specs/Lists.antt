-- The items that a bounded list holds.
use Rattle.std.specs.Prelude.{◌≡◌, ℕ, ◌<◌, ◌≤◌, List, length, take, Some, None, Option}
use Rattle.lists.specs.declared.BoundedList.{BoundedList}

-- those that it counts
abbrev pub listed : {T : Type 0} {N : ℕ} → BoundedList T N → List T
listed l = take l.count l.items

-- the list of these items, or none where they are more than N
abbrev pub MadeList : {T : Type 0} (N : ℕ) → List T → Option (BoundedList T N) → Type 0
MadeList N xs (Some l) = (listed l ≡ xs) × (length xs ≤ N)
MadeList N xs None = N < length xs
