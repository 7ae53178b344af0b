-- One more operation, and the reads of those so far.
use Rattle.std.proofs.Common.{◌≡◌, ℕ, ◌+◌, ◌<◌, Bool, true, false, cond, ◌&&◌, List, [], ◌∷◌, ◌++◌, length, get_or, take, unwrap_or, map, refl, ap, ◌∙◌}
use Rattle.std.specs.List.{filter}
use Rattle.std.proofs.lemmas.List.{map-append, take_more}
use Rattle.std.proofs.lemmas.List.Elements.{filter-append}
use Rattle.bodies.specs.Operations.{is_read, key_of}
use Rattle.bodies.specs.declared.operation.Operation.{Operation}
use Rattle.locks.specs.Groups.{is_local}
use Rattle.locks.specs.LocalRows.{Rows, read_values, value_at}

module _ (groups group : ℕ) (rows : Rows) where
  abbrev value_of : Operation → ℕ
  value_of o = unwrap_or (value_at rows (key_of o)) 0

  abbrev reads_here : Operation → Bool
  reads_here o = is_local groups group o && is_read o

  one_read : (o : Operation) (b : Bool) → reads_here o ≡ b → read_values groups group rows (o ∷ []) ≡ cond b (value_of o ∷ []) []
  one_read o b e = ap (λ t. map value_of (cond t (o ∷ filter reads_here []) (filter reads_here []))) e ∙ each b where
    each : (b : Bool) → map value_of (cond b (o ∷ []) []) ≡ cond b (value_of o ∷ []) []
    each true = refl
    each false = refl

  pub reads_more : (os : List Operation) (i : ℕ) (d : Operation) (b : Bool) → i < length os → reads_here (get_or os i d) ≡ b →
      read_values groups group rows (take (i + 1) os)
      ≡ read_values groups group rows (take i os) ++ cond b (value_of (get_or os i d) ∷ []) []
  reads_more os i d b l e =
      ap (read_values groups group rows) (take_more os i d l)
      ∙ ap (map value_of) (filter-append reads_here (take i os) (get_or os i d ∷ []))
      ∙ map-append value_of (filter reads_here (take i os)) (filter reads_here (get_or os i d ∷ []))
      ∙ ap (λ more. read_values groups group rows (take i os) ++ more) (one_read (get_or os i d) b e)
