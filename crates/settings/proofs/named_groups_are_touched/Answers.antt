use Rattle.settings.proofs.Named.{named_groups}
use Rattle.settings.proofs.named_groups_are_touched.Goals as goal

pub returns : goal.returns
returns c = named_groups
