-- The reads of a pending transaction, again.
use Rattle.std.specs.Prelude.{ℕ, List, [], Some, None, Option}
use Rattle.std.specs.List.{find}
use Rattle.envelope.specs.declared.name.Name.{Name}
use Rattle.locks.specs.LocalRows.{Rows}
use Rattle.replica.specs.Models.{Config, ReplicaModel, Transaction, is_named}
use Rattle.replica.specs.Steps.{reads_of}

-- of the transaction, if there is one
abbrev pub reads_of_any : Config → Rows → Option Transaction → List ℕ
reads_of_any C rows None = []
reads_of_any C rows (Some t) = reads_of C rows t

-- of the pending transaction of a name
abbrev pub reads_again : Config → ReplicaModel → Name → List ℕ
reads_again C m x = reads_of_any C m.rows (find (is_named x) m.pending)
