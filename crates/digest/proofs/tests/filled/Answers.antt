use Rattle.std.proofs.Common.{zero-add}
use Rattle.std.proofs.lemmas.List.{drop-replicate}
use Rattle.digest.proofs.tests.filled.Goals as goal

pub returns : goal.returns
returns c = simp (c.put.ensures.after, drop-replicate, zero-add)
