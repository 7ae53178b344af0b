-- What giving a mark does, for every mark scheme.
use Rattle.std.specs.Prelude.{◌≡◌, ℕ, Bool, true, false, cond, not, List, length, take, drop, is_some, is_ok, Some, None, Ok, Err, Option, Result, nat_lt}
use Rattle.marks.specs.declared.fault.GiveFault.{GiveFault}
use Rattle.marks.specs.declared.fault.GiveFault.TheVariants.{ShortBuffer, Spent}
use Rattle.votes.specs.Marks.{mark_bytes}
use Rattle.votes.specs.declared.mark.Mark.{Mark}
use Rattle.votes.specs.declared.statement.Statement.{Statement}

-- a mark is given where the buffer has space for it and the replica is not spent
abbrev pub give_answer : Bool → ℕ → List ℕ → Result (Unit {0}) GiveFault
give_answer spent size out = cond (nat_lt (length out) size) (Err ShortBuffer) (cond spent (Err Spent) (Ok tt))

-- What a call of `give` leaves: the scheme s and the buffer out before it, s' and out' after it, and its answer.
pub record Gives (S : Type 0) (genuine : S → Statement → List ℕ → Bool) (spent : S → ℕ → ℕ → Bool)
    (leaves : S → Statement → S → Type 0) (size : ℕ)
    (s s' : S) (statement : Statement) (out out' : List ℕ) (answer : Result (Unit {0}) GiveFault) : Type 0 where
  pub says : answer ≡ give_answer (spent s statement.group statement.replica) size out
  -- a refusal changes nothing
  pub same : is_ok answer ≡ false → (s' ≡ s) × (out' ≡ out)
  -- otherwise the first bytes are a genuine mark
  pub marks : is_ok answer ≡ true → genuine s statement (take size out') ≡ true
  -- and of the scheme is left what the scheme says that a mark leaves
  pub left : is_ok answer ≡ true → leaves s statement s'
  -- the bytes beyond a mark stay
  pub rest : drop size out' ≡ drop size out
  -- no other replica is spent by it, or freed
  pub others : (g r : ℕ) → ((g ≡ statement.group) × (r ≡ statement.replica) → ⊥) → spent s' g r ≡ spent s g r
  -- what is genuine stays so, and nothing else becomes genuine
  pub lasts : (t : Statement) (m : List ℕ) → genuine s' t m ≡ genuine s t m

-- the mark that was given is genuine and has as many bytes as the scheme's marks have
abbrev pub IsGenuine : (Statement → List ℕ → Bool) → ℕ → Statement → Option Mark → Type 0
IsGenuine genuine size statement None = Unit {0}
IsGenuine genuine size statement (Some m) = (genuine statement (mark_bytes m) ≡ true) × (length (mark_bytes m) ≡ size)

-- The same where the mark is a value: given exactly where the replica is not spent.
pub record GivesMark (S : Type 0) (genuine : S → Statement → List ℕ → Bool) (spent : S → ℕ → ℕ → Bool)
    (leaves : S → Statement → S → Type 0) (size : ℕ)
    (s s' : S) (statement : Statement) (answer : Option Mark) : Type 0 where
  pub says : is_some answer ≡ not (spent s statement.group statement.replica)
  pub same : is_some answer ≡ false → s' ≡ s
  pub marks : IsGenuine (genuine s) size statement answer
  pub left : is_some answer ≡ true → leaves s statement s'
  pub others : (g r : ℕ) → ((g ≡ statement.group) × (r ≡ statement.replica) → ⊥) → spent s' g r ≡ spent s g r
  pub lasts : (t : Statement) (m : List ℕ) → genuine s' t m ≡ genuine s t m
