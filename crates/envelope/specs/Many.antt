-- What it is to read as many things off the front of some bytes, one after another.
use Rattle.std.specs.Prelude.{◌≡◌, ℕ, ◌<◌, List, length, Some, None, Option}
use Rattle.std.specs.Borrow.{Bor}
use Rattle.std.specs.List.{FoldsTo}
use Rattle.lists.specs.Lists.{listed}
use Rattle.lists.specs.declared.BoundedList.{BoundedList}

-- at bs, x was read, and rest was left
abbrev pub Leaves : {T : Type 0} → (List ℕ → Option (T × Bor (List ℕ)) → Type 0) → List ℕ → T → List ℕ → Type 0
Leaves read bs x rest = (b : Bor (List ℕ)) × read bs (Some (x, b)) × (b.now ≡ rest)

-- n things were read from bs on, each where the one before it left off; or fewer were, and then no other could be
abbrev pub ReadsMany : {T : Type 0} {N : ℕ} → ℕ → (List ℕ → Option (T × Bor (List ℕ)) → Type 0) → List ℕ
    → Option (BoundedList T N × Bor (List ℕ)) → Type 0
ReadsMany n read bs (Some p) = (length (listed p.0) ≡ n) × FoldsTo (Leaves read) bs (listed p.0) p.1.now
ReadsMany {T} n read bs None =
    (xs : List T) × (rest : List ℕ) × (length xs < n) × FoldsTo (Leaves read) bs xs rest × read rest None
