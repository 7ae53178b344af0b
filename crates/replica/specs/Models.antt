-- What a replica holds, what is fixed at it, and what it answers.
use Rattle.std.specs.Prelude.{ℕ, Bool, List, []}
use Rattle.std.specs.Ordering.{is_eq}
use Rattle.bodies.specs.declared.operation.Operation.{Operation}
use Rattle.envelope.specs.declared.name.Name.{Name}
use Rattle.locks.specs.Conflicts.{conflicts}
use Rattle.locks.specs.LocalRows.{Rows}
use Rattle.table.specs.Orders.{by_bytes}
use Rattle.table.specs.declared.row.Row.{Row}
use Rattle.votes.specs.declared.ground.Ground.{Ground}
use Rattle.votes.specs.declared.state.State.{State}
use Rattle.votes.specs.declared.vote.Vote.{Vote}

-- the sizes: of the register, and of the replica's book
pub record Config : Type 0 where
  pub groups : ℕ  -- how many groups there are
  pub group : ℕ  -- the replica's own
  pub replicas : ℕ  -- n, how many each group has
  pub faults : ℕ  -- f, how many of them may be faulty
  pub names : ℕ  -- how many names the book has space for

-- a transaction: its name, and what it does
pub record Transaction : Type 0 where
  pub name : Name
  pub operations : List Operation

-- the names that a replica knows, each with its state
abbrev pub Book : Type 0
Book = List (Row Name State)

-- what a replica holds
pub record ReplicaModel : Type 0 where
  pub place : ℕ  -- how many messages of its group's list it has taken
  pub rows : Rows
  pub book : Book
  pub pending : List Transaction  -- in the order in which they were entered

-- a replica that has taken nothing yet
abbrev pub fresh : Rows → ReplicaModel
fresh rows = record { place = 0; rows = rows; book = []; pending = [] }

-- what a replica says of a name
pub record ReplyModel : Type 0 where
  pub name : Name
  pub vote : Vote
  pub state : State
  pub ground : Ground
  pub reads : List ℕ

-- the most transactions that are pending at a replica
abbrev pub most_pending : ℕ
most_pending = 32

-- whether two names are the same
abbrev pub same_name : Name → Name → Bool
same_name x y = is_eq (by_bytes x y)

-- whether a transaction has the name
abbrev pub is_named : Name → Transaction → Bool
is_named x t = same_name x t.name

-- whether operations conflict in a group with a transaction
abbrev pub is_conflicting : ℕ → ℕ → List Operation → Transaction → Bool
is_conflicting groups group os t = conflicts groups group os t.operations
