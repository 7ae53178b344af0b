-- What the parts that were read say of the body that the bytes are.
use Rattle.std.proofs.Common.{◌≡◌, ℕ, false, List, ◌∷◌, ◌++◌, length, sym, ap, ◌∙◌}
use Rattle.std.specs.List.{flat_map, AllByRecursion}
use Rattle.std.proofs.lemmas.Bool.{both_ways}
use Rattle.octets.specs.Numbers.{Fits64, bytes64}
use Rattle.bodies.specs.Bodies.{BodyFits, BodyModel, body_contents, body_format}
use Rattle.envelope.specs.Formats.{OneWriting}
use Rattle.bodies.specs.Operations.{OperationFits, operation_bytes, writes_apart}
use Rattle.bodies.specs.declared.operation.Operation.{Operation}
use Rattle.envelope.proofs.Envelopes.{same_contents}
use Rattle.bodies.proofs.OneOperation.{same_operation, same_value}
use Rattle.envelope.proofs.Sequences.{same_all}

-- as many operations, written alike, are the same
same_operations : (xs ys : List Operation) → AllByRecursion OperationFits xs → AllByRecursion OperationFits ys → length xs ≡ length ys
    → flat_map operation_bytes xs ≡ flat_map operation_bytes ys → xs ≡ ys
same_operations = same_all OperationFits operation_bytes same_operation

-- bs is no body's contents
abbrev pub NoBody : List ℕ → Type 0
NoBody bs = (b : BodyModel) → BodyFits b → bs ≡ body_contents b → ⊥

pub no_nonce : (bs : List ℕ) → ((v : ℕ) (t : List ℕ) → Fits64 v → bs ≡ bytes64 v ++ t → ⊥) → NoBody bs
no_nonce bs h b f e = h b.nonce _ f.nonce_fits e

-- bs is a nonce, a count and the rest
module _ (bs : List ℕ) (nonce : ℕ) (fits : Fits64 nonce) (after : List ℕ) (count : ℕ) (rest : List ℕ)
    (e : bs ≡ bytes64 nonce ++ after) (e' : after ≡ count ∷ rest) where
  -- so are the contents of a body
  parts : (b : BodyModel) → BodyFits b → bs ≡ body_contents b
      → (count ≡ length b.operations) × (rest ≡ flat_map operation_bytes b.operations)
  parts b f w =
      let h = same_value nonce b.nonce after _ fits f.nonce_fits (sym e ∙ w) in
      (cc h.1, cc h.1)

  pub no_operations : ((os : List Operation) → length os ≡ count → AllByRecursion OperationFits os → rest ≡ flat_map operation_bytes os → ⊥)
      → NoBody bs
  no_operations h b f w = let p = parts b f w in h b.operations (sym p.0) f.fit p.1

  module _ (os : List Operation) (l : length os ≡ count) (fit : AllByRecursion OperationFits os) (r : rest ≡ flat_map operation_bytes os) where
    pub whole : bs ≡ body_contents (record { nonce = nonce; operations = os })
    whole = cc

    pub two_writes : false ≡ writes_apart os → NoBody bs
    two_writes n b f w =
        let p = parts b f w in
        let same = same_operations os b.operations fit f.fit (l ∙ p.0) (sym r ∙ p.1) in
        both_ways (writes_apart os) (sym n) (ap writes_apart same ∙ f.apart)

pub one_writing : OneWriting body_format
one_writing a b f g e =
    let s = same_contents body_format a b e in
    let h = same_value a.nonce b.nonce _ _ f.nonce_fits g.nonce_fits s in
    let l : length a.operations ≡ length b.operations = cc h.1 in
    let j : flat_map operation_bytes a.operations ≡ flat_map operation_bytes b.operations = cc h.1 in
    let os = same_operations _ _ f.fit g.fit l j in
    λ i. record { nonce = h.0 i; operations = os i }
