-- The groups that a transaction names, as a test and as the protocol has them.
use Rattle.std.specs.Prelude.{◌≡◌, ℕ, Bool, true, ◌↔◌, List}
use Rattle.bodies.specs.declared.operation.Operation.{Operation}
use Rattle.envelope.specs.declared.name.Name.{Name}
use Rattle.locks.specs.Groups.{names_group}
use Rattle.protocol.specs.Conflicts.{Touches}
use Rattle.votes.specs.declared.statement.Statement.{Statement}
use Rattle.settings.specs.Settings.{Sizes, setting}
use Rattle.settings.specs.Transactions.{txn}

-- they are the same
abbrev pub NamedGroups : Type 0
NamedGroups =
    (S : Sizes) (honest : ℕ → ℕ → Bool) (genuine : Statement → List ℕ → Bool) (x : Name) (os : List Operation) (g : ℕ) →
    (names_group S.groups os g ≡ true) ↔ Touches (setting S honest genuine) (txn x os) g
