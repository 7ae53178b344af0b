-- Worked out in `Example`.
use Rattle.protocol.proofs.Example.{example_run}
use Rattle.protocol.proofs.example_commits_and_rolls_back.Goals as goal

pub returns : goal.returns
returns c = example_run
