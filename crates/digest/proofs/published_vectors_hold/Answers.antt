use Rattle.std.proofs.Common.{refl}
use Rattle.digest.specs.Block.{extended, schedule, words}
use Rattle.digest.specs.Hash.{bytes_of, hmac, initial, keyed, padding, sha256}
use Rattle.digest.proofs.published_vectors_hold.Goals as goal

pub returns : goal.returns
unfolding extended schedule words
    bytes_of hmac initial keyed padding sha256
returns c = record { empty = refl; one_block = refl; two_blocks = refl; mac_1 = refl; mac_2 = refl }
