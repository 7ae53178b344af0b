use Rattle.std.proofs.Common.{rules}
use Rattle.std.proofs.iter.runs.Sources.{ranges}
use Rattle.sequencer.proofs.tracks.empty_tracks.Goals as goal

pub returns-clause-len : goal.returns-clause-len
returns-clause-len c = search (rules, ranges)

pub returns-clause-empty : goal.returns-clause-empty
returns-clause-empty c = search (rules, ranges)
