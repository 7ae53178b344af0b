-- What every sequencer keeps to: its lists of messages and what fits.
use Rattle.std.specs.Prelude.{◌≡◌, ℕ, ◌-◌, ◌^◌, ◌≤◌, Bool, true, false, ◌&&◌, List, [], ◌∷◌, length, Some, None, Option, nat_lt}
use Rattle.std.specs.List.{AllByRecursion}
use Rattle.octets.specs.Buffers.{overlaid}
use Rattle.envelope.specs.Messages.{largest_message}

-- whether a list has no message
abbrev pub is_nil : {X : Type 0} → List X → Bool
is_nil [] = true
is_nil (x ∷ xs) = false

-- a buffer with a message, if there is one, written over its front
abbrev pub copied_to : List ℕ → Option (List ℕ) → List ℕ
copied_to buffer None = buffer
copied_to buffer (Some m) = overlaid buffer 0 m

-- a message of this length may be posted
abbrev pub Sized : ℕ → Type 0
Sized n = (1 ≤ n) × (n ≤ largest_message)

-- the most messages that a list has
abbrev pub most_messages : ℕ
most_messages = 2 ^ 64 - 1

-- what holds of every sequencer
pub record Bounds {S : Type 0} (lists : S → ℕ → List (List ℕ)) (fits : S → ℕ → ℕ → Bool) : Type 0 where
  -- no length of 0 or over the largest message fits
  pub sized : (s : S) (g n : ℕ) → fits s g n ≡ true → Sized n
  -- nor is such a message in a list
  pub stored : (s : S) (g : ℕ) → AllByRecursion (λ m. Sized (length m)) (lists s g)
  -- no list has more than the most messages
  pub counted : (s : S) (g : ℕ) → length (lists s g) ≤ most_messages
  -- and nothing fits a list with so many
  pub full : (s : S) (g n : ℕ) → length (lists s g) ≡ most_messages → fits s g n ≡ false

-- a sequencer that was made for so many groups: its lists are empty, and what fits
pub record Fresh {S : Type 0} (lists : S → ℕ → List (List ℕ)) (fits : S → ℕ → ℕ → Bool) (groups : ℕ) (room : ℕ → Bool)
    (s : S) : Type 0 where
  pub none : (g : ℕ) → lists s g ≡ []
  pub empty : (g n : ℕ) → fits s g n ≡ (nat_lt g groups && room n)
