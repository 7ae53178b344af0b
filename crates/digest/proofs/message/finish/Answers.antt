use Rattle.std.proofs.Common.{◌∙◌, sym, ap, ap₂}
use Rattle.digest.specs.Block.{hashed}
use Rattle.digest.specs.Hash.{bytes_of}
use Rattle.digest.proofs.Messages.{hashed_join}
use Rattle.digest.proofs.message.finish.Goals as goal

pub returns : goal.returns
returns c =
    let last = rw c.as_chunks.ensures.back at c.pad-last.ensures in
    c.to_bytes.ensures
    ∙ ap bytes_of (c.hash_blocks-2.ensures ∙ ap₂ hashed c.hash_blocks.ensures last ∙ sym (hashed_join c.args.s c.args.rest.now _))
