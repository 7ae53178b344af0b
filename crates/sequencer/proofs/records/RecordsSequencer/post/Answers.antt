use Rattle.std.proofs.Common.{sym}
use Rattle.sequencer.proofs.Groups.{lists_more}
use Rattle.sequencer.proofs.records.RecordsSequencer.post.Goals as goal

pub returns-clause-appends : goal.returns-clause-appends
returns-clause-appends g c =
    lists_more c.args.self.now c.args.group c.args.message.now (sym c.if-not-has_space.ensures) c.append.new.self c.append.ensures
