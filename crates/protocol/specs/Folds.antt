-- Systems whose replicas fold a step over the messages that they pass, and the laws that such a step must keep.
use Rattle.std.specs.Prelude.{◌≡◌, List, [], ◌∷◌}
use mathlib.Core.HLevel.{Discrete}
use Rattle.protocol.specs.Kinds.{Kinds, Group}
use Rattle.protocol.specs.Settings.{Setting}
use Rattle.protocol.specs.Replicas.{absent, View, System}
use Rattle.protocol.specs.Steps.{Change, Laws, Heard, Settled, ProgressLaws}

-- a replica's states: how it begins in each group, what a message makes of a state, and what can be read off one
pub record Machine (K : Kinds) (State : Type 0) : Type 0 where
  pub set : Setting K
  pub init : Group → State
  pub step : Group → State → K.Message → State
  pub read : State → View K

-- a step taken over a list, from its first member on
abbrev pub fold : {A B : Type 0} → (A → B → A) → A → List B → A
fold f a [] = a
fold f a (b ∷ bs) = fold f (f a b) bs

module _ {K : Kinds} {State : Type 0} where
  -- the system in which every replica folds the step over the messages that it has passed
  abbrev pub folded : Machine K State → System K
  folded M = record { set = M.set; view = λ g l. M.read (fold (M.step g) (M.init g) l) }

  -- the states that a replica of g can come to
  pub data Reached (M : Machine K State) (g : Group) : State → Type 0 where
    first : Reached M g (M.init g)
    next : {s : State} (m : K.Message) → Reached M g s → Reached M g (M.step g s m)

  -- what is asked of each step from a state that can be reached
  pub record StepLaws (M : Machine K State) : Type 0 where
    pub names : Discrete K.Name
    pub starts : (g : Group) (x : K.Name) → (M.read (M.init g)).status x ≡ absent
    pub moves : (g : Group) (s : State) (m : K.Message) → Reached M g s →
        Change M.set g (M.read s) m (M.read (M.step g s m))
    pub hears : (g : Group) (s : State) (m : K.Message) → Reached M g s →
        Heard M.set (M.read s) m (M.read (M.step g s m))
    pub settles : (g : Group) (s : State) (m : K.Message) → Reached M g s →
        Settled M.set (M.read s) m (M.read (M.step g s m))

-- A system that folds such a step keeps the laws.
abbrev pub FoldsAreLawful : Kinds → Type 0 → Type 0
FoldsAreLawful K State = (M : Machine K State) → StepLaws M → Laws (folded M) × ProgressLaws (folded M)
