-- Both kinds of sequencer keep the bounds of every sequencer.
use Rattle.std.specs.Prelude.{◌≡◌, ℕ, zero, suc, ◌+◌, ◌*◌, ◌≤◌, true, List, [], ◌∷◌, length, take, drop, Some, None, Option, ◌==◌, nat_le, nat_lt, slice_index, refl}
use Rattle.std.proofs.Common.{mul-le-mul_left, arith, length-drop}
use Rattle.std.specs.List.{AllByRecursion}
use Rattle.std.proofs.ByRecursion.{All-weaker}
use Rattle.std.proofs.lemmas.List.{length-take-le}
use Rattle.std.proofs.lemmas.Bool.{and_parts, cond_both, false≢true, leb-true}
use Rattle.envelope.specs.Messages.{largest_message}
use Rattle.sequencer.specs.Lists.{Bounds, Sized, most_messages}
use Rattle.sequencer.specs.Records.{Entry, entries, first, has_space, messages_of, of_group, record_size, said_length, up_to}
use Rattle.sequencer.specs.Tapes.{groups_of, tape_fits, tape_lists}
use Rattle.sequencer.specs.Tracks.{fits_on, list_on, track_fits, track_lists, track_of}
use Rattle.sequencer.specs.declared.records.Records.{Records}

-- what fits may be posted, and its record ends within the buffer
pub record Spacious (lead used size n : ℕ) : Type 0 where
  pub sized : Sized n
  pub inside : used + record_size lead n ≤ size

pub spacious : (lead used size n : ℕ) → has_space lead used size n ≡ true → Spacious lead used size n
spacious lead used size n e =
    let p = and_parts (nat_le 1 n) _ e in
    let q = and_parts (nat_le n largest_message) _ p.1 in
    record { sized = (leb-true 1 n p.0, leb-true n _ q.0); inside = leb-true (used + record_size lead n) size q.1 }

-- a group has at most as many messages as there are entries, and what holds of each entry's message holds of each of them
pub fewer : (g : ℕ) (es : List Entry) → length (of_group g es) ≤ length es
fewer g [] = omega arith
fewer g (e ∷ es) =
    cond_both (e.group == g) (e.message ∷ of_group g es) (of_group g es) (λ ms. length ms ≤ length (e ∷ es))
    (λ _. omega (arith, fewer g es)) (λ _. omega (arith, fewer g es))

all_of_group : (P : List ℕ → Type 0) (g : ℕ) (es : List Entry) → AllByRecursion (λ e. P e.message) es
    → AllByRecursion P (of_group g es)
all_of_group P g [] ps = tt
all_of_group P g (e ∷ es) ps =
    let more = all_of_group P g es ps.1 in
    cond_both (e.group == g) _ _ (AllByRecursion P) (λ _. (ps.0, more)) (λ _. more)

module _ (lead : ℕ) where
  -- a record has at least the bytes around a message and one more
  count_entries : (n : ℕ) (bs : List ℕ) → record_size lead 1 * length (up_to lead n bs) ≤ length bs
  count_entries zero bs = omega arith
  count_entries (suc n) bs =
      let said : ℕ = said_length lead bs in
      let later = drop (record_size lead said) bs in
      cond_both (has_space lead 0 (length bs) said) (first lead bs ∷ up_to lead n later) []
      (λ es. record_size lead 1 * length es ≤ length bs)
      (λ t. let s = spacious lead 0 (length bs) said t in
      omega (arith, count_entries n later, s.inside, s.sized.0, length-drop (record_size lead said) bs)) (λ _. omega arith)

  -- an entry that a record can store
  pub record Proper (e : Entry) : Type 0 where
    pub placed : slice_index (take lead (e.group ∷ [])) 0 ≡ e.group
    pub sized : Sized (length e.message)

  proper_first : (bs : List ℕ) → has_space lead 0 (length bs) (said_length lead bs) ≡ true → Proper (first lead bs)
  proper_first bs t =
      let s = spacious lead 0 (length bs) (said_length lead bs) t in
      let long = length-take-le (said_length lead bs) (drop (lead + 2) bs) (omega (arith, s.inside, length-drop (lead + 2) bs)) in
      record { placed = again lead; sized = (omega (arith, long, s.sized.0), omega (arith, long, s.sized.1)) }
    where
      again : (lead : ℕ) → slice_index (take lead (slice_index (take lead bs) 0 ∷ [])) 0 ≡ slice_index (take lead bs) 0
      again zero = refl
      again (suc k) = refl

  proper_up_to : (n : ℕ) (bs : List ℕ) → AllByRecursion Proper (up_to lead n bs)
  proper_up_to zero bs = tt
  proper_up_to (suc n) bs =
      cond_both (has_space lead 0 (length bs) (said_length lead bs)) _ _ (AllByRecursion Proper)
      (λ t. (proper_first bs t, proper_up_to n (drop (record_size lead (said_length lead bs)) bs))) (λ _. tt)

  pub proper_entries : (bs : List ℕ) → AllByRecursion Proper (entries lead bs)
  unfolding entries
  proper_entries bs = proper_up_to (length bs) bs

  -- no bytes store a message that may not be posted, nor more messages than there is space for records
  pub sized_messages : (bs : List ℕ) (g : ℕ) → AllByRecursion (λ m. Sized (length m)) (messages_of lead bs g)
  sized_messages bs g = all_of_group _ g _ (All-weaker _ _ (λ e p. p.sized) _ (proper_entries bs))

  pub count_messages : (bs : List ℕ) (g : ℕ) → record_size lead 1 * length (messages_of lead bs g) ≤ length bs
  unfolding entries
  count_messages bs g =
      let es = up_to lead (length bs) bs in
      omega (arith, mul-le-mul_left (record_size lead 1) (fewer g es), count_entries (length bs) bs)

module _ {lead : ℕ} where
  counted : (t : Records lead) (g : ℕ) → length (tape_lists t g) + 1 ≤ most_messages
  counted t g =
      cond_both (nat_lt g (groups_of t)) (messages_of lead t.bytes.items g) [] (λ ms. length ms + 1 ≤ most_messages)
      (λ _. omega (arith, count_messages lead t.bytes.items g, t.bytes.ok, t.bytes.small)) (λ _. omega arith)

  pub tape_bounds : Bounds (tape_lists {lead = lead}) tape_fits
  tape_bounds = record {
    sized = λ t g n e. (spacious lead _ _ _ (and_parts (nat_lt g (groups_of t)) _ e).1).sized;
    stored = λ t g.
        cond_both (nat_lt g (groups_of t)) (messages_of lead t.bytes.items g) [] (AllByRecursion (λ m. Sized (length m)))
        (λ _. sized_messages lead t.bytes.items g) (λ _. tt);
    counted = λ t g. omega (arith, counted t g);
    full = λ t g n e. absurd (omega (arith, e, counted t g));
  }

sized_on : (t : Option (Records 0)) (n : ℕ) → fits_on t n ≡ true → Sized n
sized_on None n e = absurd (false≢true e)
sized_on (Some t) n e = (spacious 0 _ _ _ e).sized

stored_on : (t : Option (Records 0)) → AllByRecursion (λ m. Sized (length m)) (list_on t)
stored_on None = tt
stored_on (Some t) = sized_messages 0 t.bytes.items 0

counted_on : (t : Option (Records 0)) → length (list_on t) + 1 ≤ most_messages
counted_on None = omega arith
counted_on (Some t) = omega (arith, count_messages 0 t.bytes.items 0, t.bytes.ok, t.bytes.small)

pub track_bounds : Bounds track_lists track_fits
track_bounds = record {
  sized = λ s g n. sized_on (track_of s g) n;
  stored = λ s g. stored_on (track_of s g);
  counted = λ s g. omega (arith, counted_on (track_of s g));
  full = λ s g n e. absurd (omega (arith, e, counted_on (track_of s g)));
}
