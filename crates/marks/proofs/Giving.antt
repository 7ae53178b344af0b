-- What a mark that was given leaves.
use Rattle.std.proofs.Common.{◌≡◌, ℕ, ◌+◌, ◌≤◌, Bool, true, false, List, length, take, drop, Ok, sym, ap, ◌∙◌, arith}
use Rattle.std.specs.Str.{bytes_eq}
use Rattle.std.proofs.lemmas.Slice.Eq.{bytes_eq-Decides}
use Rattle.std.proofs.lemmas.List.{drop_at}
use Rattle.std.proofs.lemmas.Bool.{cond-false, le-ltb}
use Rattle.octets.specs.Buffers.{overlaid}
use Rattle.octets.proofs.Overlays.{front_overlaid}
use Rattle.marks.specs.Meaning.{give_answer}

pub says_given : (spent : Bool) (size : ℕ) (out : List ℕ) → spent ≡ false → size ≤ length out
    → Ok tt ≡ give_answer spent size out
says_given spent size out free long =
    sym (cond-false _ _ _ (le-ltb (length out) size long) ∙ cond-false _ _ _ free)

-- the mark stands at the front, and the rest stays
module _ (size : ℕ) (out after mark : List ℕ) (fits : length mark ≡ size) (is : after ≡ overlaid out 0 mark) where
  front : take size after ≡ mark
  front = ap (take size) is ∙ front_overlaid out mark 0 size (omega arith) (omega arith)

  pub beyond : drop size after ≡ drop size out
  beyond =
      let same : 0 + length mark ≡ size = omega arith in
      ap (drop size) is ∙ drop_at mark (drop (0 + length mark) out) size fits ∙ ap (λ n. drop n out) same

  pub marked : (expected : List ℕ) → mark ≡ expected → bytes_eq expected (take size after) ≡ true
  marked expected e = (bytes_eq-Decides expected (take size after)).1 (sym e ∙ sym front)
