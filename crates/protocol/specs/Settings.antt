-- What is fixed: groups and their keys, honest replicas, genuine marks, and how messages read.
use Rattle.std.specs.Prelude.{ℕ, Bool}
use Rattle.std.proofs.Math.Option.{Option}
use Rattle.protocol.specs.Kinds.{Kinds, Group, Replica}
use Rattle.protocol.specs.Transactions.{Vote, Txn}
use Rattle.protocol.specs.Certificates.{Entry, Answer, Certificate}

-- of a run, all that never changes
pub record Setting (K : Kinds) : Type 0 where
  pub home : K.Key → Group  -- the group that keeps a key
  pub replicas : ℕ  -- n, how many each group has, numbered from 0
  pub faults : ℕ  -- f, how many replicas of a group may be faulty
  pub honest : Group → Replica → Bool
  pub genuine : K.Name → Vote → Entry K.Mark → Bool  -- the mark is genuine for this replica's vote on the name
  -- what a message reads as: a body, a proposal to abort, a certificate or an answer
  pub body : K.Message → Option (Txn K)
  pub proposal : K.Message → Option K.Name
  pub certificate : K.Message → Option (Certificate K)
  pub answer : K.Message → Option (Answer K)
