-- What a message does to a replica, and what the replica answers.
use Rattle.std.specs.Prelude.{ℕ, ◌+◌, Bool, cond, List, [], ◌∷◌, ◌++◌, length, Some, None, Ok, Err, Option, Result, nat_le, nat_lt}
use Rattle.std.specs.List.{find}
use Rattle.bodies.specs.declared.operation.Operation.{Operation}
use Rattle.envelope.specs.declared.fault.ReadFault.TheVariants.{Malformed}
use Rattle.envelope.specs.declared.name.Name.{Name}
use Rattle.locks.specs.Groups.{groups_byte, names_group}
use Rattle.locks.specs.LocalRows.{Rows, is_unequal, lacks_row, read_values, written_by_all}
use Rattle.quorums.specs.Genuine.{all_genuine}
use Rattle.quorums.specs.Shapes.{shaped}
use Rattle.readings.specs.Messages.{Message, body, certificate, proposal, other, parsed}
use Rattle.table.specs.Orders.{by_bytes}
use Rattle.table.specs.Rows.{changed, insert_sorted, lookup}
use Rattle.votes.specs.declared.fault.CertificateFault.{CertificateFault}
use Rattle.votes.specs.declared.fault.CertificateFault.TheVariants.{Read, NotPending, Shape, NotGenuine}
use Rattle.votes.specs.declared.fault.DeliveryFault.{DeliveryFault}
use Rattle.votes.specs.declared.fault.DeliveryFault.TheVariants.{Certificate, NoKeyHere, BookFull}
use Rattle.votes.specs.declared.ground.Ground.{Ground}
use Rattle.votes.specs.declared.ground.Ground.TheVariants as ground
use Rattle.votes.specs.declared.state.State.{State}
use Rattle.votes.specs.declared.state.State.TheVariants.{Pending, Committed, RolledBack, Declined}
use Rattle.votes.specs.declared.statement.Statement.{Statement}
use Rattle.votes.specs.declared.vote.Vote.{Vote}
use Rattle.votes.specs.declared.vote.Vote.TheVariants.{Commit, Abort}
use Rattle.wire.specs.Certificates.{CertificateModel}
use Rattle.replica.specs.Models.{Book, Config, ReplicaModel, ReplyModel, Transaction}
use Rattle.replica.specs.Models.{is_conflicting, is_named, most_pending}
use Rattle.replica.specs.Searches.{without}
use Rattle.replica.specs.declared.book.Delivered.{Delivered}
use Rattle.replica.specs.declared.book.Delivered.TheVariants as delivered

-- what comes of a delivery: a reply, nothing (of a certificate), or a refusal
abbrev pub Outcome : Type 0
Outcome = Result (Option ReplyModel) DeliveryFault

-- the vote that was given on a name of this state
abbrev pub vote_on : State → Vote
vote_on Pending = Commit
vote_on Committed = Commit
vote_on RolledBack = Commit
vote_on Declined = Abort

-- the state that a certificate of this vote leads to
abbrev pub end_of : Vote → State
end_of Commit = Committed
end_of Abort = RolledBack

-- the state of a known name after it has met a message that is well formed and, if a certificate, valid
abbrev pub state_after : State → Delivered → State
state_after Pending delivered.Body = Pending
state_after Pending delivered.Proposal = Pending
state_after Pending (delivered.Certificate v) = end_of v
state_after Committed d = Committed
state_after RolledBack d = RolledBack
state_after Declined d = Declined

-- a book with one more name
abbrev pub entered : Name → State → Book → Book
entered x s book = insert_sorted by_bytes (record { key = x; value = s }) book

-- a replica that knows one more name
abbrev pub with_entry : ReplicaModel → Name → State → ReplicaModel
with_entry m x s =
    record { place = m.place; rows = m.rows; book = entered x s m.book; pending = m.pending }

-- why a known name is answered as it is
abbrev pub known_ground : State → Ground
known_ground Pending = ground.Pending
known_ground Committed = ground.Known
known_ground RolledBack = ground.Known
known_ground Declined = ground.Known

-- a replica whose place has moved on by one
abbrev pub moved_on : ReplicaModel → ReplicaModel
moved_on m = record { place = m.place + 1; rows = m.rows; book = m.book; pending = m.pending }

-- the rows of a group after a transaction has ended: a commit writes them
abbrev pub rows_ended : ℕ → ℕ → Vote → List Operation → Rows → Rows
rows_ended groups group Commit os rows = written_by_all groups group os rows
rows_ended groups group Abort os rows = rows

module _ (C : Config) where
  -- the reads of a transaction
  abbrev pub reads_of : Rows → Transaction → List ℕ
  reads_of rows t = read_values C.groups C.group rows t.operations

  -- the reads that a known name is answered with: while it is pending, those of its transaction
  abbrev pub known_reads : Rows → State → Option Transaction → List ℕ
  known_reads rows Pending (Some t) = reads_of rows t
  known_reads rows Pending None = []
  known_reads rows Committed t = []
  known_reads rows RolledBack t = []
  known_reads rows Declined t = []

  -- the reply on a known name
  abbrev pub recalled : ReplicaModel → Name → State → ReplyModel
  recalled m x s =
      record {
        name = x;
        vote = vote_on s;
        state = s;
        ground = known_ground s;
        reads = known_reads m.rows s (find (is_named x) m.pending);
      }

  -- a known name is answered from its entry, and a new one needs space in the book
  abbrev pub answered : ReplicaModel → Name → Option State → ReplicaModel × Outcome → ReplicaModel × Outcome
  answered m x (Some s) new = (m, Ok (Some (recalled m x s)))
  answered m x None new = cond (nat_lt (length m.book) C.names) new (m, Err BookFull)

  -- a new name is declined
  abbrev pub declined : ReplicaModel → Name → (ground : Ground) → ReplicaModel × Outcome
  declined m x g = (
    with_entry m x Declined,
    Ok (Some (record { name = x; vote = Abort; state = Declined; ground = g; reads = [] })),
  )

  -- a new transaction is pending
  abbrev pub admitted : ReplicaModel → Transaction → ReplicaModel × Outcome
  admitted m t = (
    record {
      place = m.place;
      rows = m.rows;
      book = entered t.name Pending m.book;
      pending = m.pending ++ (t ∷ []);
    },
    Ok (Some (record {
      name = t.name;
      vote = Commit;
      state = Pending;
      ground = ground.Pending;
      reads = reads_of m.rows t;
    })),
  )

  -- the ground that a pending transaction in the way is
  abbrev pub blocked_by : Transaction → Ground
  blocked_by t =
      ground.Blocked (record { name = t.name; groups = record { bits = groups_byte C.groups t.operations } })

  -- the earliest pending one in the way is a ground to decline
  abbrev pub blocked_or : Option Transaction → Option Ground → Option Ground
  blocked_or None further = further
  blocked_or (Some t) further = Some (blocked_by t)

  -- why a new transaction is declined where none is in its way: no place is left, or a compare is not equal
  abbrev pub late_objection : ReplicaModel → List Operation → Option Ground
  late_objection m os =
      cond (nat_le most_pending (length m.pending)) (Some ground.NoPlace)
      (cond (is_unequal C.groups C.group m.rows os) (Some ground.Unequal) None)

  -- why a new transaction is declined, if it is: the first ground that applies
  abbrev pub objection : ReplicaModel → List Operation → Option Ground
  objection m os =
      cond (lacks_row C.groups C.group m.rows os) (Some ground.NoRow)
      (blocked_or (find (is_conflicting C.groups C.group os) m.pending) (late_objection m os))

  -- a new transaction is declined or pending
  abbrev pub decided : ReplicaModel → Transaction → Option Ground → ReplicaModel × Outcome
  decided m t (Some g) = declined m t.name g
  decided m t None = admitted m t

  -- a body
  abbrev pub on_body : ReplicaModel → Transaction → ReplicaModel × Outcome
  on_body m t =
      cond (names_group C.groups t.operations C.group)
      (answered m t.name (lookup by_bytes m.book t.name) (decided m t (objection m t.operations)))
      (m, Err NoKeyHere)

  -- a proposal to abort
  abbrev pub on_proposal : ReplicaModel → Name → ReplicaModel × Outcome
  on_proposal m x = answered m x (lookup by_bytes m.book x) (declined m x ground.Proposed)

  -- the transaction of a name that is pending
  abbrev pub while_pending : Option State → Option Transaction → Option Transaction
  while_pending None t = None
  while_pending (Some Pending) t = t
  while_pending (Some Committed) t = None
  while_pending (Some RolledBack) t = None
  while_pending (Some Declined) t = None

  abbrev pub pending_at : ReplicaModel → Name → Option Transaction
  pending_at m x = while_pending (lookup by_bytes m.book x) (find (is_named x) m.pending)

  -- the rows of the replica then
  abbrev pub rows_after : Vote → List Operation → Rows → Rows
  rows_after v os rows = rows_ended C.groups C.group v os rows

  -- a pending transaction has ended: its place is free, and its entry stays
  abbrev pub ended : ReplicaModel → Name → Vote → List Operation → ReplicaModel
  ended m x v os =
      record {
        place = m.place;
        rows = rows_after v os m.rows;
        book = changed by_bytes m.book x (end_of v);
        pending = without (is_named x) m.pending;
      }

  module _ (genuine : Statement → List ℕ → Bool) where
    -- the pending transaction that a certificate is valid for, or why it is refused
    abbrev pub judged : CertificateModel → Option Transaction → Result Transaction CertificateFault
    judged c None = Err NotPending
    judged c (Some t) =
        cond (shaped C.groups C.replicas C.faults t.operations c.vote c.entries)
        (cond (all_genuine genuine c.name c.vote c.entries) (Ok t) (Err NotGenuine)) (Err Shape)

    -- a certificate ends the transaction that it is valid for
    abbrev pub settled : ReplicaModel → Name → Vote → Result Transaction CertificateFault → ReplicaModel × Outcome
    settled m x v (Ok t) = (ended m x v t.operations, Ok None)
    settled m x v (Err fault) = (m, Err (Certificate fault))

    abbrev pub on_certificate : ReplicaModel → CertificateModel → ReplicaModel × Outcome
    on_certificate m c = settled m c.name c.vote (judged c (pending_at m c.name))

    -- a message that has been read
    abbrev pub acted : ReplicaModel → Message → ReplicaModel × Outcome
    acted m (body b x) = on_body m (record { name = x; operations = b.operations })
    acted m (certificate c) = on_certificate m c
    acted m (proposal x) = on_proposal m x
    acted m other = (m, Err (Certificate (Read Malformed)))

    -- the replica after the next message, and what comes of it, where marks have so many bytes
    unfoldable pub stepped : ℕ → ReplicaModel → List ℕ → ReplicaModel × Outcome
    stepped width m bs = acted (moved_on m) (parsed width bs)
