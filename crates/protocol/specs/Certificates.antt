-- What replicas put their marks under: answers, and certificates that gather them.
use Rattle.std.specs.Prelude.{◌≡◌, ◌<◌, ◌⊎◌, List, [], ◌∷◌, nat_eq}
use Rattle.protocol.specs.Kinds.{Kinds, Group, Replica}
use Rattle.protocol.specs.Lists.{In, only}
use Rattle.protocol.specs.Transactions.{Vote}

-- a replica of a group, with its mark
pub record Entry (Mark : Type 0) : Type 0 where
  pub group : Group
  pub replica : Replica
  pub mark : Mark

-- a replica's vote on a name, under its mark
pub record Answer (K : Kinds) : Type 0 where
  pub name : K.Name
  pub vote : Vote
  pub entry : Entry K.Mark

-- marks of several replicas under one vote on a name
pub record Certificate (K : Kinds) : Type 0 where
  pub name : K.Name
  pub vote : Vote
  pub entries : List (Entry K.Mark)

module _ {Mark : Type 0} where
  -- e stands before d: by group, then by replica
  abbrev pub Before : Entry Mark → Entry Mark → Type 0
  Before e d = (e.group < d.group) ⊎ ((e.group ≡ d.group) × (e.replica < d.replica))

  -- each stands before all that follow it, so no replica stands twice
  abbrev pub Rising : List (Entry Mark) → Type 0
  Rising [] = Unit {0}
  Rising (e ∷ es) = ((d : Entry Mark) → In d es → Before e d) × Rising es

  -- the entries of a group
  abbrev pub from : Group → List (Entry Mark) → List (Entry Mark)
  from g es = only (λ e. nat_eq g e.group) es
