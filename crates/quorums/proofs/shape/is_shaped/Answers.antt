use Rattle.std.proofs.Common.{arith}
use Rattle.std.proofs.lemmas.List.Folds.{list_all-map}
use Rattle.quorums.proofs.shape.is_shaped.Goals as goal

pub returns-then-are_below : goal.returns-then-are_below
returns-then-are_below c = rw list_all-map (grind arith)

pub returns-else-are_below : goal.returns-else-are_below
returns-else-are_below c = rw list_all-map (grind arith)
