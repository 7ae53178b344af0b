use Rattle.std.proofs.Common.{◌≡◌, ◌∙◌, rules, refl, div-one, w32}
use Rattle.std.specs.Int.{to_be_bytes}
use Rattle.octets.specs.Numbers.{bytes32}
use Rattle.digest.specs.Hash.{bytes_of, words_of}
use Rattle.digest.proofs.Arrays.{flat_mapped}
use Rattle.digest.proofs.message.to_bytes.Goals as goal

pub returns : goal.returns
unfolding bytes_of
returns c =
    flat_mapped _ _ bytes32 (λ x y q call. let is : y ≡ to_be_bytes w32 x = search rules in (simp div-one is, search rules))
    (words_of c.args.s) _ _ 8 refl c.map.ensures.items (c.copy_from_slice.ensures.after ∙ c.as_flattened.ensures.value)
