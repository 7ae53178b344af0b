-- The tests of a certificate, on its entries and on what they show.
use Rattle.std.proofs.Common.{◌≡◌, ℕ, ◌+◌, ◌&&◌, ◌==◌, List, count_by, map, length, nat_eq}
use Rattle.std.specs.List.{list_all, list_any}
use Rattle.std.proofs.lemmas.List.Folds.{fold-map, list_all-map}
use lib.ListN.{length-map}
use Rattle.bodies.specs.Operations.{key_of}
use Rattle.bodies.specs.declared.operation.Operation.{Operation}
use Rattle.locks.specs.Groups.{group_of, is_local, names_group}
use Rattle.votes.specs.Entries.{shown}
use Rattle.votes.specs.declared.entry.Entry.{Entry}
use Rattle.votes.specs.declared.vote.Vote.TheVariants.{Commit, Abort}
use Rattle.quorums.specs.Shapes.{spread}

module _ (groups faults : ℕ) (os : List Operation) (es : List Entry) where
  pub of_each : spread groups faults os Commit (map shown es) ≡
      (list_all (λ e. names_group groups os e.group) es && list_all (λ o. nat_eq (count_by (λ e. nat_eq e.group (group_of groups (key_of o))) es) (faults + 1)) os)
  of_each = simp (list_all-map, fold-map)

  pub of_one : spread groups faults os Abort (map shown es) ≡
      ((length es == faults + 1) && list_any (λ o. list_all (λ e. is_local groups e.group o) es) os)
  of_one = simp (list_all-map, length-map)
