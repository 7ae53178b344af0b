-- How a certificate ends a transaction, by the transaction's name.
use Rattle.std.specs.Prelude.{Some, None, Ok, Err, Option, Result}
use Rattle.std.specs.List.{find}
use Rattle.envelope.specs.declared.name.Name.{Name}
use Rattle.locks.specs.LocalRows.{Rows}
use Rattle.votes.specs.declared.fault.CertificateFault.{CertificateFault}
use Rattle.votes.specs.declared.fault.DeliveryFault.TheVariants as delivery
use Rattle.votes.specs.declared.vote.Vote.{Vote}
use Rattle.replica.specs.Meetings.{met_named}
use Rattle.replica.specs.Models.{Config, ReplicaModel, Transaction, is_named}
use Rattle.replica.specs.Searches.{without}
use Rattle.replica.specs.Steps.{Outcome, rows_after}
use Rattle.replica.specs.Transactions.{transaction}
use Rattle.replica.specs.declared.book.Delivered.TheVariants.{Certificate}
use Rattle.replica.specs.declared.state.PendingPlace.{PendingPlace}

-- the rows after the transaction, if there is one, has ended so
abbrev pub ended_rows : Config → Vote → Option Transaction → Rows → Rows
ended_rows C v None rows = rows
ended_rows C v (Some t) rows = rows_after C v t.operations rows

-- a replica at which the transaction of a name has ended so
abbrev pub ended_named : Config → ReplicaModel → Name → Vote → ReplicaModel
ended_named C m x v =
    record {
      place = m.place;
      rows = ended_rows C v (find (is_named x) m.pending) m.rows;
      book = met_named m.book x (Certificate v);
      pending = without (is_named x) m.pending;
    }

-- what the code's judgement says
abbrev pub judgement : Result PendingPlace CertificateFault → Result Transaction CertificateFault
judgement (Ok held) = Ok (transaction held)
judgement (Err fault) = Err fault

-- what comes of a certificate: no reply, or a refusal
abbrev pub certificate_outcome : Result (Unit {0}) CertificateFault → Outcome
certificate_outcome (Ok u) = Ok None
certificate_outcome (Err fault) = Err (delivery.Certificate fault)
