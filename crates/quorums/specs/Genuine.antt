-- Whether the marks of a certificate are genuine.
use Rattle.std.specs.Prelude.{ℕ, Bool, List}
use Rattle.std.specs.List.{list_all}
use Rattle.envelope.specs.declared.name.Name.{Name}
use Rattle.votes.specs.Entries.{EntryModel}
use Rattle.votes.specs.Votes.{vote_byte}
use Rattle.votes.specs.declared.statement.Statement.{Statement}
use Rattle.votes.specs.declared.vote.Vote.{Vote}

-- what an entry states: that its replica gave this vote on the name
abbrev pub stated : Name → Vote → EntryModel → Statement
stated x v e = record { group = e.group; replica = e.replica; vote = vote_byte v; name = x }

-- whether every entry's mark is genuine for what the entry states
abbrev pub all_genuine : (Statement → List ℕ → Bool) → Name → Vote → List EntryModel → Bool
all_genuine genuine x v es = list_all (λ e. genuine (stated x v e) e.mark) es
