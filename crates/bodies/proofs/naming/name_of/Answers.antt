use Rattle.std.proofs.Common.{length, ap, ◌∙◌, arith}
use Rattle.std.proofs.lemmas.Slice.{between_to_end}
use Rattle.digest.specs.Hash.{sha256}
use Rattle.bodies.proofs.naming.name_of.Goals as goal

pub returns-in-len2-up : goal.returns-in-len2-up
returns-in-len2-up c =
    let m = c.args.message.now in
    c.sha256-bytes-in-len2-up.ensures ∙ ap sha256 (between_to_end m 2 (length m) (omega arith))
