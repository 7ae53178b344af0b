-- Fields that stand in several messages: names, and bytes of a given length.
use Rattle.std.specs.Prelude.{◌≡◌, ℕ, ◌<◌, List, ◌++◌, length, Some, None, Option}
use Rattle.std.specs.Borrow.{Bor}
use Rattle.envelope.specs.declared.name.Name.{Name}

-- a name has 32 bytes, and is written as they stand
abbrev pub NameFits : Name → Type 0
NameFits x = length x.bytes ≡ 32

abbrev pub name_bytes : Name → List ℕ
name_bytes x = x.bytes

-- the first n bytes of bs and the rest, or none where bs is shorter
abbrev pub Splits : ℕ → List ℕ → Option (Bor (List ℕ) × Bor (List ℕ)) → Type 0
Splits n bs (Some p) = (length p.0.now ≡ n) × (bs ≡ p.0.now ++ p.1.now)
Splits n bs None = length bs < n
