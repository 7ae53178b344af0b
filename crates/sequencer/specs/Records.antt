-- How messages lie in a buffer: as records, one after another from its start. A record is the group's number, where
-- records have a lead byte for it (lead 1), two bytes for the length, and the message. Records with no lead byte
-- (lead 0) are all of group 0.
use Rattle.std.specs.Prelude.{◌≡◌, ℕ, zero, suc, ◌+◌, ◌*◌, Bool, cond, ◌&&◌, List, [], ◌∷◌, ◌++◌, length, take, drop, ◌==◌, nat_le, slice_index}
use Rattle.std.specs.List.{flat_map}
use Rattle.octets.specs.Numbers.{big_endian}
use Rattle.envelope.specs.Messages.{largest_message}

-- what a record stores
pub record Entry : Type 0 where
  pub group : ℕ
  pub message : List ℕ

-- a buffer: the bytes that are used, and how many there may be
pub record Buffer : Type 0 where
  pub used : List ℕ
  pub size : ℕ

-- the messages of a group among these entries, in their order
abbrev pub of_group : ℕ → List Entry → List (List ℕ)
of_group g [] = []
of_group g (e ∷ es) = cond (e.group == g) (e.message ∷ of_group g es) (of_group g es)

module _ (lead : ℕ) where
  -- the record of an entry
  abbrev pub record_of : Entry → List ℕ
  record_of e = take lead (e.group ∷ []) ++ (big_endian 2 (length e.message) ++ e.message)

  -- how many bytes the record of a message of n bytes has
  abbrev pub record_size : ℕ → ℕ
  record_size n = lead + 2 + n

  -- whether a message of n bytes may be posted and has space, where `used` bytes of `space` are used
  abbrev pub has_space : ℕ → ℕ → ℕ → Bool
  has_space used space n = nat_le 1 n && (nat_le n largest_message && nat_le (used + record_size n) space)

  -- the length that the record at the front says
  abbrev pub said_length : List ℕ → ℕ
  said_length bs = slice_index bs lead * 256 + slice_index bs (lead + 1)

  -- the entry that the record at the front stores
  abbrev pub first : List ℕ → Entry
  first bs = record { group = slice_index (take lead bs) 0; message = take (said_length bs) (drop (lead + 2) bs) }

  -- what up to n records store, as far as the bytes are records
  abbrev pub up_to : ℕ → List ℕ → List Entry
  up_to zero bs = []
  up_to (suc n) bs =
      cond (has_space 0 (length bs) (said_length bs)) (first bs ∷ up_to n (drop (record_size (said_length bs)) bs)) []

  -- what the bytes store
  unfoldable pub entries : List ℕ → List Entry
  entries bs = up_to (length bs) bs

  -- the bytes are records and nothing else
  abbrev pub OnlyRecords : List ℕ → Type 0
  OnlyRecords bs = flat_map record_of (entries bs) ≡ bs

  -- the buffer with one more record at the end
  abbrev pub with_record : Entry → Buffer → Buffer
  with_record e b = record { used = b.used ++ record_of e; size = b.size }

  -- the messages of a group that the bytes store
  abbrev pub messages_of : List ℕ → ℕ → List (List ℕ)
  messages_of bs g = of_group g (entries bs)
