use Rattle.std.proofs.Common.{◌++◌, ap, ◌∙◌}
use Rattle.digest.specs.Hash.{hmac, keyed, sha256}
use Rattle.digest.proofs.hmac.Goals as goal

pub returns : goal.returns
unfolding hmac
returns c =
    c.keyed_hash-2.ensures ∙ ap (λ inner. sha256 (keyed c.args.key.now 0x5c ++ inner)) c.keyed_hash.ensures
