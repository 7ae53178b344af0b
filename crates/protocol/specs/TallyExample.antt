-- The small tally at work: each number that it says, and the certificates that it writes.
use Rattle.std.specs.Prelude.{◌≡◌, ℕ, List, [], ◌∷◌, ◌++◌}
use Rattle.std.proofs.Math.Option.{none, some}
use Rattle.protocol.specs.Kinds.{Group, Replica}
use Rattle.protocol.specs.Transactions.{Vote, commit, abort}
use Rattle.protocol.specs.SmallMessages.{Message, propose, certify, reply}
use Rattle.protocol.specs.SmallTally.{tally}
use Rattle.protocol.specs.Example.{three, signed}

-- what the messages meet, one after the other, in a tally for the name 7 and the groups 0 and 1
abbrev pub numbers : List Message → List Message → List ℕ
numbers before [] = []
numbers before (m ∷ l) = (tally three).number 7 (0 ∷ 1 ∷ []) before m ∷ numbers (before ++ (m ∷ [])) l

-- an answer of a replica with a vote and a mark
abbrev pub answer : ℕ → Group → Replica → Vote → ℕ → Message
answer x g r v mark = reply x v (signed g r mark)

-- what it is fed with
abbrev pub heard : List Message
heard =
    propose 7 ∷  -- no answer
    answer 8 0 0 commit 0 ∷  -- another name
    answer 7 5 0 commit 0 ∷  -- another group
    answer 7 0 3 commit 0 ∷  -- no such replica
    answer 7 0 0 commit 4 ∷  -- a mark that is not genuine
    answer 7 1 2 commit 0 ∷
    answer 7 1 2 abort 0 ∷  -- the same replica
    answer 7 1 0 commit 1 ∷
    answer 7 1 1 abort 0 ∷  -- its group has two equal votes
    answer 7 0 2 abort 0 ∷
    answer 7 0 1 commit 1 ∷
    answer 7 0 0 commit 0 ∷
    []

-- what comes of it
pub record TallyExample : Type 0 where
  pub says : numbers [] heard ≡ 10 ∷ 14 ∷ 14 ∷ 14 ∷ 15 ∷ 0 ∷ 17 ∷ 0 ∷ 17 ∷ 0 ∷ 0 ∷ 0 ∷ []
  -- two commit votes of each group close it
  pub commits : (tally three).writes 7 (0 ∷ 1 ∷ []) heard ≡
      some (certify 7 commit (signed 0 0 0 ∷ signed 0 1 1 ∷ signed 1 0 1 ∷ signed 1 2 0 ∷ []))
  -- two abort votes of one group close it too
  pub aborts : (tally three).writes 7 (0 ∷ 1 ∷ [])
      (answer 7 1 2 abort 0 ∷ answer 7 0 0 commit 0 ∷ answer 7 1 0 abort 1 ∷ []) ≡
      some (certify 7 abort (signed 1 0 1 ∷ signed 1 2 0 ∷ []))
  -- one of each does not
  pub waits : (tally three).writes 7 (0 ∷ 1 ∷ []) (answer 7 1 2 abort 0 ∷ answer 7 1 1 commit 0 ∷ []) ≡ none
