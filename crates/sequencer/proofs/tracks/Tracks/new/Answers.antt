use Rattle.sequencer.proofs.Racks.{fresh_tracks}
use Rattle.sequencer.proofs.tracks.Tracks.new.Goals as goal

pub returns : goal.returns
returns c = fresh_tracks _ c.args.groups c.args.size c.in_ok-tracks.ensures.len c.in_ok-tracks.ensures.empty
