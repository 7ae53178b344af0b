-- Seals: the holder of each replica, what is genuine, and who is spent.
use Rattle.std.specs.Prelude.{◌≡◌, ℕ, ◌+◌, ◌-◌, ◌*◌, Bool, true, false, cond, ◌&&◌, List, [], Some, None, Decides, Option, ◌==◌, nat_lt, slice_index_or, slice_set}
use Rattle.std.specs.Str.{bytes_eq}
use Rattle.digest.specs.Hash.{hmac}
use Rattle.marks.specs.declared.seals.Holder.{Holder}
use Rattle.votes.specs.Statements.{statement_bytes}
use Rattle.votes.specs.declared.statement.Statement.{Statement}

-- where the holder of replica r of group g stands, of seven in each of eight groups
abbrev pub place_of : ℕ → ℕ → Option ℕ
place_of g r = cond (nat_lt g 8 && nat_lt r 7) (Some (7 * g + r)) None

-- what stands past the last holder
abbrev pub no_holder : Holder
no_holder = record { key = []; allowance = 0 }

-- HMAC-SHA-256 of the statement's bytes under the key
abbrev pub seal_of : List ℕ → Statement → List ℕ
seal_of key statement = hmac key (statement_bytes statement)

-- the seal under the key of the holder at this place, and only that, is genuine; where there is no place nothing is
abbrev pub seal_at : List Holder → Option ℕ → Statement → List ℕ → Bool
seal_at holders None statement mark = false
seal_at holders (Some i) statement mark = bytes_eq (seal_of (slice_index_or holders i no_holder).key statement) mark

-- whether the bytes are the seal of the statement under the key of the replica that it names
abbrev pub is_seal : List Holder → Statement → List ℕ → Bool
is_seal holders statement mark = seal_at holders (place_of statement.group statement.replica) statement mark

-- a holder is spent when its allowance is used up; where there is no place, always
abbrev pub spent_at : List Holder → Option ℕ → Bool
spent_at holders None = true
spent_at holders (Some i) = (slice_index_or holders i no_holder).allowance == 0

-- whether a replica of a group is spent
abbrev pub is_spent : List Holder → ℕ → ℕ → Bool
is_spent holders g r = spent_at holders (place_of g r)

-- one less of the allowance of the holder at this place
abbrev pub used_at : List Holder → Option ℕ → List Holder
used_at holders None = holders
used_at holders (Some i) =
    let h = slice_index_or holders i no_holder in
    slice_set holders i (record { key = h.key; allowance = h.allowance - 1 })

-- what is genuine for seals: just HMAC-SHA-256 under the key of the replica that the statement names, if it has one
pub record GenuineIsHmac : Type 0 where
  pub keyed : (holders : List Holder) (s : Statement) (i : ℕ) (mark : List ℕ)
      → place_of s.group s.replica ≡ Some i
      → Decides (is_seal holders s mark) (mark ≡ hmac (slice_index_or holders i no_holder).key (statement_bytes s))
  pub keyless : (holders : List Holder) (s : Statement) (mark : List ℕ) → place_of s.group s.replica ≡ None
      → is_seal holders s mark ≡ false
