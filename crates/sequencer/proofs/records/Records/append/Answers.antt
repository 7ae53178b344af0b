use Rattle.std.proofs.Common.{◌∙◌}
use Rattle.sequencer.proofs.Groups.{indexed_more, limit_more, room, whole_more}
use Rattle.sequencer.proofs.records.Records.append.Goals as goal

pub push_reserved-requires : goal.push_reserved-requires
push_reserved-requires g c =
    room c.args.self.now c.args.group c.args.message.now c.requires c.index_mut.result.now c.index_mut.ensures.value

pub invariant_of-self-clause-whole : goal.invariant_of-self-clause-whole
invariant_of-self-clause-whole g c =
    whole_more c.args.self.now c.args.group c.args.message.now c.requires _ c.append_record.ensures.after

pub invariant_of-self-clause-indexed : goal.invariant_of-self-clause-indexed
invariant_of-self-clause-indexed g c =
    indexed_more c.args.self.now c.args.group c.args.message.now c.requires _ c.append_record.ensures.after
    c.index_mut.result.now c.push_reserved.new.self c.len-start.result c.index_mut.ensures.value
    (c.len-start.ensures ∙ c.args.self.now.bytes.ok.0) c.push_reserved.ensures.items

pub invariant_of-self-clause-limit : goal.invariant_of-self-clause-limit
invariant_of-self-clause-limit g c =
    limit_more c.args.self.now c.args.group c.args.message.now c.requires c.index_mut.result.now c.index_mut.ensures.value
    c.push_reserved.new.self c.push_reserved.ensures.capacity
