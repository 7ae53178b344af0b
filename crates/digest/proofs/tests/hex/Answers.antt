use Rattle.std.proofs.Common.{◌∙◌, rules}
use Rattle.digest.specs.Hex.{digits}
use Rattle.digest.proofs.Arrays.{flat_mapped}
use Rattle.digest.proofs.tests.hex.Goals as goal

pub returns : goal.returns
returns c =
    flat_mapped _ _ digits (λ x y q call. search rules) c.args.digest.now _ _ 32 c.told-digest c.map.ensures.items
    (c.copy_from_slice.ensures.after ∙ c.as_flattened.ensures.value)
