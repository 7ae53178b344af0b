-- The setting of the protocol that the register is: how its bytes read, and which marks are genuine.
use Rattle.std.specs.Prelude.{ℕ, Bool, List, map, Some, None, Option as Maybe}
use Rattle.std.proofs.Math.Option.{Option, none, some}
use Rattle.envelope.specs.declared.name.Name.{Name}
use Rattle.locks.specs.Groups.{group_of}
use Rattle.protocol.specs.Certificates.{Answer, Certificate, Entry}
use Rattle.protocol.specs.Settings.{Setting}
use Rattle.protocol.specs.Transactions.{Vote, commit, abort, Txn}
use Rattle.readings.specs.Answers.{answer_of}
use Rattle.readings.specs.Messages.{Message, body, certificate, proposal, other, parsed}
use Rattle.votes.specs.Entries.{EntryModel}
use Rattle.votes.specs.Votes.{vote_byte}
use Rattle.votes.specs.declared.statement.Statement.{Statement}
use Rattle.votes.specs.declared.vote.Vote.{Vote as Ballot}
use Rattle.votes.specs.declared.vote.Vote.TheVariants.{Commit, Abort}
use Rattle.wire.specs.Answers.{AnswerModel}
use Rattle.settings.specs.Transactions.{register, txn}

-- the sizes of a register: how many groups, how many replicas a group, how many of them may be faulty, and how many
-- bytes a mark has
pub record Sizes : Type 0 where
  pub groups : ℕ
  pub replicas : ℕ
  pub faults : ℕ
  pub width : ℕ

-- a vote in the protocol, and back
abbrev pub vote_in : Ballot → Vote
vote_in Commit = commit
vote_in Abort = abort

abbrev pub ballot : Vote → Ballot
ballot commit = Commit
ballot abort = Abort

-- an entry in the protocol
abbrev pub entry_in : EntryModel → Entry (List ℕ)
entry_in e = record { group = e.group; replica = e.replica; mark = e.mark }

-- the transaction that a message brings
abbrev pub body_in : Message → Option (Txn register)
body_in (body b x) = some (txn x b.operations)
body_in (certificate c) = none
body_in (proposal x) = none
body_in other = none

-- the name that it proposes to abort
abbrev pub proposal_in : Message → Option Name
proposal_in (body b x) = none
proposal_in (certificate c) = none
proposal_in (proposal x) = some x
proposal_in other = none

-- the certificate that it is
abbrev pub certificate_in : Message → Option (Certificate register)
certificate_in (body b x) = none
certificate_in (certificate c) =
    some (record { name = c.name; vote = vote_in c.vote; entries = map entry_in c.entries })
certificate_in (proposal x) = none
certificate_in other = none

-- the answer that bytes read as
abbrev pub answer_in : Maybe AnswerModel → Option (Answer register)
answer_in None = none
answer_in (Some a) =
    some (record {
      name = a.name;
      vote = vote_in a.vote;
      entry = record { group = a.group; replica = a.replica; mark = a.mark };
    })

-- what an entry states: that its replica gave this vote on the name
abbrev pub statement_in : Name → Vote → Entry (List ℕ) → Statement
statement_in x v e = record { group = e.group; replica = e.replica; vote = vote_byte (ballot v); name = x }

-- the setting, with the honest replicas and the genuine marks
abbrev pub setting : Sizes → (ℕ → ℕ → Bool) → (Statement → List ℕ → Bool) → Setting register
setting S honest genuine =
    record {
      home = group_of S.groups;
      replicas = S.replicas;
      faults = S.faults;
      honest = honest;
      genuine = λ x v e. genuine (statement_in x v e) e.mark;
      body = λ bs. body_in (parsed S.width bs);
      proposal = λ bs. proposal_in (parsed S.width bs);
      certificate = λ bs. certificate_in (parsed S.width bs);
      answer = λ bs. answer_in (answer_of S.width bs);
    }
