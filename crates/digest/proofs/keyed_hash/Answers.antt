use Rattle.std.proofs.Common.{arith}
use Rattle.digest.specs.Hash.{initial}
use Rattle.digest.proofs.Messages.{sha256_after}
use Rattle.digest.proofs.keyed_hash.Goals as goal

pub returns : goal.returns
unfolding initial
returns c =
    sha256_after c.hash_blocks.result c.key_block.result _ c.args.message.now c.finish.result
    (omega arith) c.key_block.ensures c.hash_blocks.ensures c.finish.ensures
