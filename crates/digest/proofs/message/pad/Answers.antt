use Rattle.std.proofs.Common.{arith}
use Rattle.digest.proofs.Padding.{padded}
use Rattle.digest.proofs.message.pad.Goals as goal

pub returns : goal.returns
returns c =
    padded c.args.rest.now c.put.new.out c.put_u64.new.out c.padded_len-len.result c.args.total
    c.padded_len-len.ensures (omega arith) c.requires c.put.ensures.after c.put_u64.ensures.after
