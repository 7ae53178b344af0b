-- The transaction in a pending place.
use Rattle.bodies.specs.Bodies.{body_model}
use Rattle.replica.specs.Models.{Transaction}
use Rattle.replica.specs.declared.state.PendingPlace.{PendingPlace}

-- its name, and the operations of its body
abbrev pub transaction : PendingPlace → Transaction
transaction p = record { name = p.name; operations = (body_model p.body).operations }
