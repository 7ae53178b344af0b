-- What can be read off a replica that has passed some messages of its group's list.
use Rattle.std.specs.Prelude.{Bool, List}
use Rattle.std.proofs.Math.Option.{Option, none, some}
use Rattle.protocol.specs.Kinds.{Kinds, Group, Value}
use Rattle.protocol.specs.Transactions.{Vote, commit, abort, Txn}
use Rattle.protocol.specs.Settings.{Setting}

-- the status of a name at a replica
pub data Status (K : Kinds) : Type 0 where
  absent : Status K
  pending : Txn K → Status K
  committed : Status K
  rolled_back : Status K
  declined : Status K

-- the vote that a replica has given on a name of this status
abbrev pub vote_of : {K : Kinds} → Status K → Option Vote
vote_of absent = none
vote_of (pending t) = some commit
vote_of committed = some commit
vote_of rolled_back = some commit
vote_of declined = some abort

-- what can be read off a replica: the status of each name, its rows, and whether its book is full
pub record View (K : Kinds) : Type 0 where
  pub status : K.Name → Status K
  pub rows : K.Key → Option Value
  pub full : Bool  -- its book has no room for a new name

-- Every honest replica of g that has passed the messages l, oldest first, has the view `view g l`.
pub record System (K : Kinds) : Type 0 where
  pub set : Setting K
  pub view : Group → List K.Message → View K

module _ {K : Kinds} where
  -- after the messages l: the status of a name, and the row at a key
  abbrev pub status_of : System K → Group → List K.Message → K.Name → Status K
  status_of S g l x = (S.view g l).status x

  abbrev pub rows_of : System K → Group → List K.Message → K.Key → Option Value
  rows_of S g l k = (S.view g l).rows k
