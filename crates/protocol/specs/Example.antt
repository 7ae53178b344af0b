-- An example: two groups of three replicas, of which the last is faulty. In one run that keeps the assumptions, one
-- transaction
-- over both groups is committed, and another is rolled back.
use Rattle.std.specs.Prelude.{◌≡◌, ℕ, ◌%◌, [], ◌∷◌, nat_lt}
use Rattle.std.proofs.Math.Option.{none, some}
use Rattle.protocol.specs.Kinds.{Group, Replica}
use Rattle.protocol.specs.Transactions.{commit, abort}
use Rattle.protocol.specs.Certificates.{Entry}
use Rattle.protocol.specs.Replicas.{rolled_back, declined}
use Rattle.protocol.specs.Quorums.{FewFaulty, Majority}
use Rattle.protocol.specs.Runs.{Run, post, deliver, status_at, row_at}
use Rattle.protocol.specs.Assumptions.{Assumptions}
use Rattle.protocol.specs.Agreement.{CommittedAt}
use Rattle.protocol.specs.Ending.{Pending}
use Rattle.protocol.specs.Moves.{Made}
use Rattle.protocol.specs.SmallMessages.{Body, Message, begin, propose, certify, small, txn, Config, setting}
use Rattle.protocol.specs.SmallStep.{system}
use Rattle.protocol.specs.SmallTally.{tally}

-- even keys are kept by group 0, and odd ones by group 1; of the marks, 0 and 1 are genuine under every vote
abbrev pub three : Config
three =
    record {
      home = λ k. k % 2;
      replicas = 3;
      faults = 1;
      honest = λ g r. nat_lt r 2;
      genuine = λ x v e. nat_lt e.mark 2;
      first = λ k. some 0;
      places = 9;
      book = 9;
    }

-- each writes a key of either group, and they do not conflict
abbrev pub transfer : Body
transfer =
    record {
      name = 7;
      operations =
          record { key = 0; expect = some 0; put = some 5 } ∷ record { key = 1; expect = none; put = some 6 } ∷ [];
    }

-- and so does this one, at other keys
abbrev pub payment : Body
payment =
    record {
      name = 8;
      operations =
          record { key = 2; expect = none; put = some 3 } ∷ record { key = 3; expect = none; put = some 4 } ∷ [];
    }

-- a replica with its mark
abbrev pub signed : Group → Replica → ℕ → Entry ℕ
signed g r mark = record { group = g; replica = r; mark = mark }

-- the honest replicas of both groups vote to commit the transfer
abbrev pub transferred : Message
transferred = certify 7 commit (signed 0 0 0 ∷ signed 0 1 1 ∷ signed 1 0 1 ∷ signed 1 1 0 ∷ [])

-- an honest replica and the faulty one of group 1 vote to abort the payment
abbrev pub withdrawn : Message
withdrawn = certify 8 abort (signed 1 1 0 ∷ signed 1 2 1 ∷ [])

-- the next message for every honest replica
abbrev pub round : Run small → Run small
round run = deliver 1 1 ∷ deliver 1 0 ∷ deliver 0 1 ∷ deliver 0 0 ∷ run

-- the transfer is posted to both groups, and the payment to group 0 alone; both are pending, and the transfer is
-- committed
abbrev pub halfway : Run small
halfway =
    round (post 1 transferred ∷ post 0 transferred ∷
    round (round (post 0 (begin payment) ∷ post 1 (begin transfer) ∷ post 0 (begin transfer) ∷ [])))

-- then it is proposed to abort the payment, which group 1 does not know, and so it is rolled back
abbrev pub whole : Run small
whole = round (post 1 withdrawn ∷ post 0 withdrawn ∷ round (post 1 (propose 8) ∷ post 0 (propose 8) ∷ halfway))

-- what agreement and order assume is met, and this is what comes of the run
pub record ExampleRun : Type 0 where
  pub few : FewFaulty (setting three)
  pub assumptions : Assumptions (system three) whole
  pub commits : CommittedAt (system three) whole (txn transfer) 0 0 ×
      CommittedAt (system three) whole (txn transfer) 1 1
  pub writes : (row_at (system three) whole 0 0 0 ≡ some 5) × (row_at (system three) whole 1 1 1 ≡ some 6)
  pub rolls_back : status_at (system three) whole 0 0 8 ≡ rolled_back
  pub declines : status_at (system three) whole 1 1 8 ≡ declined
  pub stays : row_at (system three) whole 0 0 2 ≡ some 0

-- and so is what ending assumes: from the middle of the run, the moves that end the payment can be made
pub record ExampleEnds : Type 0 where
  pub majority : Majority (setting three)
  pub pends : Pending (system three) halfway (txn payment)
  pub moves : Made (system three) (tally three) halfway (txn payment)
