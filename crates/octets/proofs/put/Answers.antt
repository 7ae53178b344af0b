use Rattle.std.proofs.Common.{refl, rules}
use Rattle.std.proofs.lemmas.Slice.{overwrites}
use Rattle.octets.proofs.put.Goals as goal

pub returns : goal.returns
returns c = record { after = search (rules, overwrites); end = refl }
