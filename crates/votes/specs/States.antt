-- The states of a transaction at a replica, as bytes and in words.
use Rattle.std.specs.Prelude.{ℕ, List, [], ◌∷◌, Option, codes}
use Rattle.votes.specs.Bytes.{with_byte}
use Rattle.votes.specs.declared.state.State.{State}
use Rattle.votes.specs.declared.state.State.TheVariants.{Pending, Committed, RolledBack, Declined}

-- the byte of a state
abbrev pub state_byte : State → ℕ
state_byte Pending = 1
state_byte Committed = 2
state_byte RolledBack = 3
state_byte Declined = 4

-- the state of a byte
abbrev pub state_of : ℕ → Option State
state_of = with_byte state_byte (Pending ∷ Committed ∷ RolledBack ∷ Declined ∷ [])

-- a state in words
abbrev pub state_words : State → List ℕ
state_words Pending = codes "pending"
state_words Committed = codes "committed"
state_words RolledBack = codes "rolled back"
state_words Declined = codes "declined"
