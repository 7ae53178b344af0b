use Rattle.std.proofs.Common.{arith}
use Rattle.std.proofs.lemmas.Grind.{common_steps}
use Rattle.sequencer.proofs.Groups.{numbered, numbered_past, started}
use Rattle.sequencer.proofs.records.RecordsSequencer.message.Goals as goal

pub returns-in_err-start-clause-answer : goal.returns-in_err-start-clause-answer
returns-in_err-start-clause-answer g c = grind (arith, common_steps, numbered_past c.args.self.now c.args.group c.in_ok-get.field-0.now)

pub returns-in_err-start-clause-copied : goal.returns-in_err-start-clause-copied
returns-in_err-start-clause-copied g c = grind (arith, common_steps, numbered_past c.args.self.now c.args.group c.in_ok-get.field-0.now)

pub copy_message-requires : goal.copy_message-requires
copy_message-requires g c = search (arith, started c.args.self.now c.args.group c.in_ok-get.field-0.now)

pub returns-clause-answer : goal.returns-clause-answer
returns-clause-answer g c = grind (arith, common_steps, numbered c.args.self.now c.args.group c.in_ok-get.field-0.now)

pub returns-clause-copied : goal.returns-clause-copied
returns-clause-copied g c = grind (arith, common_steps, numbered c.args.self.now c.args.group c.in_ok-get.field-0.now)
