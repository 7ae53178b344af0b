-- The entries that a certificate must have.
use Rattle.std.specs.Prelude.{ℕ, ◌+◌, Bool, ◌&&◌, List, count_by, length, ◌==◌, nat_eq, nat_lt}
use Rattle.std.specs.List.{list_all, list_any}
use Rattle.bodies.specs.Operations.{key_of}
use Rattle.bodies.specs.declared.operation.Operation.{Operation}
use Rattle.locks.specs.Groups.{group_of, is_local, names_group}
use Rattle.votes.specs.Entries.{EntryModel}
use Rattle.votes.specs.declared.vote.Vote.{Vote}
use Rattle.votes.specs.declared.vote.Vote.TheVariants.{Commit, Abort}

-- how many entries are of the group
abbrev pub count_of : ℕ → List EntryModel → ℕ
count_of group es = count_by (λ e. nat_eq e.group group) es

-- commit: every entry is of a group that the transaction names, and of each such group there are f + 1;
-- abort: there are f + 1 entries, all of one group that the transaction names
abbrev pub spread : ℕ → ℕ → List Operation → Vote → List EntryModel → Bool
spread groups faults os Commit es =
    list_all (λ e. names_group groups os e.group) es &&
    list_all (λ o. nat_eq (count_of (group_of groups (key_of o)) es) (faults + 1)) os
spread groups faults os Abort es =
    (length es == faults + 1) && list_any (λ o. list_all (λ e. is_local groups e.group o) es) os

-- they are also of replicas numbered below n
abbrev pub shaped : ℕ → ℕ → ℕ → List Operation → Vote → List EntryModel → Bool
shaped groups replicas faults os v es = list_all (λ e. nat_lt e.replica replicas) es && spread groups faults os v es
