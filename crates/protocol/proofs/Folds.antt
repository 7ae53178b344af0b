-- A system that folds a lawful step keeps the laws.
use Rattle.std.proofs.Common.{◌≡◌, List, [], ◌∷◌, ◌++◌, sym, refl, subst}
use Rattle.protocol.specs.Kinds.{Kinds, Group}
use Rattle.protocol.specs.Steps.{Change, Heard, Settled}
use Rattle.protocol.specs.Folds.{Machine, fold, Reached, first, next, FoldsAreLawful}

fold_last : {A B : Type 0} (f : A → B → A) (a : A) (l : List B) (b : B) → fold f a (l ++ (b ∷ [])) ≡ f (fold f a l) b
fold_last f a [] b = refl
fold_last f a (c ∷ l) b = fold_last f (f a c) l b

reached : {K : Kinds} {State : Type 0} (M : Machine K State) (g : Group) (l : List K.Message) (s : State) →
    Reached M g s → Reached M g (fold (M.step g) s l)
reached M g [] s h = h
reached M g (m ∷ l) s h = reached M g l (M.step g s m) (next m h)

pub folds_are_lawful : (K : Kinds) (State : Type 0) → FoldsAreLawful K State
folds_are_lawful K State M laws = (
  record {
    names = laws.names;
    starts = laws.starts;
    moves = λ g l m. at_last (λ s z. Change M.set g (M.read s) m (M.read z)) g l m
        (laws.moves g (after g l) m (reached M g l (M.init g) first));
  },
  record {
    hears = λ g l m. at_last (λ s z. Heard M.set (M.read s) m (M.read z)) g l m
        (laws.hears g (after g l) m (reached M g l (M.init g) first));
    settles =
        λ g l m. at_last (λ s z. Settled M.set (M.read s) m (M.read z)) g l m
        (laws.settles g (after g l) m (reached M g l (M.init g) first));
  },
)
  where
    after : Group → List K.Message → State
    after g l = fold (M.step g) (M.init g) l

    at_last : (P : State → State → Type 0) (g : Group) (l : List K.Message) (m : K.Message) →
        P (after g l) (M.step g (after g l) m) → P (after g l) (after g (l ++ (m ∷ [])))
    at_last P g l m h = subst (P (after g l)) (sym (fold_last (M.step g) (M.init g) l m)) h
