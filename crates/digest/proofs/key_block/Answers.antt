use Rattle.std.proofs.Common.{rules, ap, ◌∙◌, map, zero-add, arith}
use lib.Bits.{bit_xor}
use Rattle.std.proofs.lemmas.List.{drop-replicate}
use Rattle.digest.specs.Hash.{keyed}
use Rattle.digest.proofs.Arrays.{mapped}
use Rattle.digest.proofs.key_block.Goals as goal

pub returns : goal.returns
unfolding keyed
returns c =
    mapped _ _ (λ k. bit_xor k c.args.mask) (λ x y q call. search rules) c.put.new.out _ 64 (omega arith) c.map.ensures.items
    ∙ ap (map (λ k. bit_xor k c.args.mask)) (simp (c.put.ensures.after, drop-replicate, zero-add, c.told-key))
