use Rattle.std.proofs.Common.{arith}
use Rattle.std.proofs.lemmas.Grind.{common_steps}
use Rattle.sequencer.proofs.Groups.{is_nil_map, listed, listed_none}
use Rattle.sequencer.proofs.records.RecordsSequencer.is_empty.Goals as goal

pub returns : goal.returns
returns g c = grind (arith, common_steps, listed c.args.self.now c.args.group, listed_none c.args.self.now c.args.group, is_nil_map)
