-- An entry of a book meets a message.
use Rattle.std.specs.Prelude.{Bool, true, false, Some, None, Option}
use Rattle.envelope.specs.declared.name.Name.{Name}
use Rattle.table.specs.Orders.{by_bytes}
use Rattle.table.specs.Rows.{changed, lookup}
use Rattle.votes.specs.declared.state.State.{State}
use Rattle.replica.specs.Models.{Book}
use Rattle.replica.specs.Steps.{state_after}
use Rattle.replica.specs.declared.book.Delivered.{Delivered}
use Rattle.replica.specs.declared.book.Delivered.TheVariants.{Body, Proposal, Certificate}

-- whether a message only asks for an answer: a body or a proposal
abbrev pub is_question : Delivered → Bool
is_question Body = true
is_question Proposal = true
is_question (Certificate v) = false

-- the book after a message has met the entry of a name, if it has one
abbrev pub met_by : Book → Name → Delivered → Option State → Book
met_by book x d None = book
met_by book x d (Some s) = changed by_bytes book x (state_after s d)

abbrev pub met_named : Book → Name → Delivered → Book
met_named book x d = met_by book x d (lookup by_bytes book x)
