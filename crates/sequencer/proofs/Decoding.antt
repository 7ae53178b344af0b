-- What is stored in bytes that are records: the entries that were written.
use Rattle.std.proofs.Common.{◌≡◌, ℕ, zero, suc, ◌+◌, ◌*◌, ◌/◌, ◌%◌, ◌≤◌, true, List, [], ◌∷◌, ◌++◌, length, take, drop, nat_le, slice_index, sym, refl, ap, ap₂, ◌∙◌, arith, length-append}
use Rattle.std.specs.List.{flat_map, AllByRecursion}
use Rattle.std.proofs.ByRecursion.{All-push}
use Rattle.std.proofs.lemmas.List.{take_at, drop_at, flat_map_more}
use Rattle.std.proofs.lemmas.Bool.{and_from, cond-true, le-leb}
use Rattle.envelope.specs.Messages.{largest_message}
use Rattle.sequencer.specs.Records.{Entry, OnlyRecords, entries, first, has_space, record_of, record_size, said_length, up_to}
use Rattle.sequencer.specs.Bounds.{Proper, proper_entries}

-- two bytes say a length
two_bytes : (n : ℕ) → n ≤ largest_message → (n / 256 % 256) * 256 + n / 1 % 256 ≡ n
two_bytes n l = omega arith

-- what is read off bytes that begin with a record
record Begun (lead : ℕ) (e : Entry) (rest : List ℕ) : Type 0 where
  said : Proper lead e → said_length lead (record_of lead e ++ rest) ≡ length e.message
  text : drop (lead + 2) (record_of lead e ++ rest) ≡ e.message ++ rest
  label : take lead (record_of lead e ++ rest) ≡ take lead (e.group ∷ [])

begun : (lead : ℕ) → lead ≤ 1 → (e : Entry) (rest : List ℕ) → Begun lead e rest
begun zero low e rest = record { said = λ p. two_bytes _ p.sized.1; text = refl; label = refl }
begun (suc zero) low e rest = record { said = λ p. two_bytes _ p.sized.1; text = refl; label = refl }
begun (suc (suc k)) low e rest = absurd (omega arith)

pub length_record : (lead : ℕ) → lead ≤ 1 → (e : Entry) → length (record_of lead e) ≡ record_size lead (length e.message)
length_record zero low e = omega arith
length_record (suc zero) low e = omega arith
length_record (suc (suc k)) low e = absurd (omega arith)

module _ (lead : ℕ) (low : lead ≤ 1) where
  module _ (e : Entry) (p : Proper lead e) (rest : List ℕ) where
    abbrev bs : List ℕ
    bs = record_of lead e ++ rest

    front : Begun lead e rest
    front = begun lead low e rest

    pub first_of : first lead bs ≡ e
    first_of =
        let group = ap (λ l. slice_index l 0) front.label ∙ p.placed in
        let message = ap₂ take (front.said p) front.text ∙ take_at e.message rest _ refl in
        λ i. record { group = group i; message = message i }

    behind_of : drop (record_size lead (said_length lead bs)) bs ≡ rest
    behind_of =
        drop_at (record_of lead e) rest _ (length_record lead low e ∙ sym (ap (record_size lead) (front.said p)))

    pub begins_of : has_space lead 0 (length bs) (said_length lead bs) ≡ true
    begins_of =
        let n : ℕ = said_length lead bs in
        let long = length-append (record_of lead e) rest in
        and_from (nat_le 1 n) _ (le-leb 1 n (omega (arith, front.said p, p.sized.0)))
        (and_from (nat_le n largest_message) _ (le-leb n _ (omega (arith, front.said p, p.sized.1)))
        (le-leb (0 + record_size lead n) (length bs) (omega (arith, front.said p, length_record lead low e))))

  -- the records of entries store these entries
  decoded : (es : List Entry) → AllByRecursion (Proper lead) es → (n : ℕ) → length es ≤ n
      → up_to lead n (flat_map (record_of lead) es) ≡ es
  decoded [] ps zero l = refl
  decoded [] ps (suc n) l = refl
  decoded (e ∷ es) ps zero l = absurd (omega arith)
  decoded (e ∷ es) ps (suc n) l =
      let rest = flat_map (record_of lead) es in
      cond-true _ _ _ (begins_of e ps.0 rest)
      ∙ ap₂ (λ x xs. x ∷ xs) (first_of e ps.0 rest)
      (ap (up_to lead n) (behind_of e ps.0 rest) ∙ decoded es ps.1 n (omega arith))

  -- a record has at least the bytes around a message and one more
  pub many : (es : List Entry) → AllByRecursion (Proper lead) es
      → record_size lead 1 * length es ≤ length (flat_map (record_of lead) es)
  many [] ps = omega arith
  many (e ∷ es) ps =
      let long = length-append (record_of lead e) (flat_map (record_of lead) es) in
      omega (arith, many es ps.1, ps.0.sized.0, length_record lead low e)

  entries_joined : (es : List Entry) → AllByRecursion (Proper lead) es → entries lead (flat_map (record_of lead) es) ≡ es
  unfolding entries
  entries_joined es ps = decoded es ps _ (omega (arith, many es ps))

  -- one more record at the end
  module _ (bs : List ℕ) (whole : OnlyRecords lead bs) (e : Entry) (p : Proper lead e) where
    more_bytes : bs ++ record_of lead e ≡ flat_map (record_of lead) (entries lead bs ++ e ∷ [])
    more_bytes = ap (λ l. l ++ record_of lead e) (sym whole) ∙ flat_map_more (record_of lead) [] (entries lead bs) e

    pub entries_more : entries lead (bs ++ record_of lead e) ≡ entries lead bs ++ e ∷ []
    entries_more =
        ap (entries lead) more_bytes ∙ entries_joined (entries lead bs ++ e ∷ []) (All-push _ _ _ (proper_entries lead bs) p)

    pub only_more : OnlyRecords lead (bs ++ record_of lead e)
    only_more = ap (flat_map (record_of lead)) entries_more ∙ sym more_bytes
