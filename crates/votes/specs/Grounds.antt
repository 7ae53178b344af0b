-- The grounds of an answer: the byte of each, and what stands at the end of the answer for a blocker.
use Rattle.std.specs.Prelude.{◌≡◌, ℕ, ◌/◌, ◌%◌, ◌^◌, ◌<◌, Bool, cond, ◌&&◌, List, [], ◌∷◌, ◌++◌, length, take, Some, None, Option, ◌==◌, nat_lt, slice_index, codes}
use Rattle.votes.specs.Bytes.{with_byte}
use Rattle.votes.specs.declared.ground.Blocker.{Blocker}
use Rattle.votes.specs.declared.ground.Ground.{Ground}
use Rattle.votes.specs.declared.ground.Ground.TheVariants.{Pending, NoRow, Blocked, NoPlace, Unequal, Proposed, Known}

-- bit g of a set of groups is set for each group g in it
abbrev pub holds_group : ℕ → ℕ → Bool
holds_group bits g = nat_lt g 8 && bits / 2 ^ g % 2 == 1

-- the byte of a ground
abbrev pub ground_byte : Ground → ℕ
ground_byte Pending = 0
ground_byte NoRow = 1
ground_byte (Blocked b) = 2
ground_byte NoPlace = 3
ground_byte Unequal = 4
ground_byte Proposed = 5
ground_byte Known = 6

-- what a ground says
abbrev pub ground_words : Ground → List ℕ
ground_words Pending = codes "pending"
ground_words NoRow = codes "a key has no row"
ground_words (Blocked b) = codes "a pending transaction conflicts"
ground_words NoPlace = codes "no place is free"
ground_words Unequal = codes "a compare is not equal"
ground_words Proposed = codes "abort was proposed"
ground_words Known = codes "known already"

-- the blocker that a ground brings
abbrev pub blocker_of : Ground → Option Blocker
blocker_of Pending = None
blocker_of NoRow = None
blocker_of (Blocked b) = Some b
blocker_of NoPlace = None
blocker_of Unequal = None
blocker_of Proposed = None
blocker_of Known = None

-- a blocker is written as its name and the byte of its groups
abbrev pub blocker_bytes : Option Blocker → List ℕ
blocker_bytes None = []
blocker_bytes (Some b) = b.name.bytes ++ (b.groups.bits ∷ [])

-- the name has 32 bytes, and the groups fit a byte
abbrev pub BlockerFits : Option Blocker → Type 0
BlockerFits None = Unit {0}
BlockerFits (Some b) = (length b.name.bytes ≡ 32) × (b.groups.bits < 256)

-- what an answer ends with: at ground 2 the blocker, otherwise nothing
abbrev pub ground_end : Ground → List ℕ
ground_end g = blocker_bytes (blocker_of g)

abbrev pub GroundFits : Ground → Type 0
GroundFits g = BlockerFits (blocker_of g)

-- the ground with the blocker that these bytes are, if they are one
abbrev pub blocked_by : List ℕ → Option Ground
blocked_by end =
    cond (length end == 33)
    (Some (Blocked (record { name = record { bytes = take 32 end }; groups = record { bits = slice_index end 32 } }))) None

-- the ground of a byte, in an answer that ends with these bytes
abbrev pub ground_of : ℕ → List ℕ → Option Ground
ground_of b end =
    cond (b == 2) (blocked_by end)
    (cond (length end == 0) (with_byte ground_byte (Pending ∷ NoRow ∷ NoPlace ∷ Unequal ∷ Proposed ∷ Known ∷ []) b) None)

-- a ground that was found fits
abbrev pub FoundFits : Option Ground → Type 0
FoundFits None = Unit {0}
FoundFits (Some g) = GroundFits g
