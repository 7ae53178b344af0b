-- Tests on lists, computed.
use Rattle.std.specs.Prelude.{ℕ, Bool, List, nat_eq}
use Rattle.std.specs.List.{list_any, list_all}

-- some member passes
abbrev pub any : {A : Type 0} → (A → Bool) → List A → Bool
any = list_any

-- every member passes
abbrev pub all : {A : Type 0} → (A → Bool) → List A → Bool
all = list_all

-- a number is a member
abbrev pub has : List ℕ → ℕ → Bool
has xs x = any (nat_eq x) xs
