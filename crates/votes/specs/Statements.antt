-- The statement that a mark is for.
use Rattle.std.specs.Prelude.{◌≡◌, ℕ, List, ◌∷◌}
use Rattle.envelope.specs.Messages.{version}
use Rattle.votes.specs.declared.statement.Statement.{Statement}

-- version, group, replica, vote, and the name
abbrev pub statement_bytes : Statement → List ℕ
statement_bytes s = version ∷ s.group ∷ s.replica ∷ s.vote ∷ s.name.bytes

-- two statements that are written alike are the same
abbrev pub OneStatement : Type 0
OneStatement = (s t : Statement) → statement_bytes s ≡ statement_bytes t → s ≡ t
