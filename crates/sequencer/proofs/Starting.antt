-- Where the records of a group start, and the messages that stand there.
use Rattle.std.proofs.Common.{◌≡◌, ℕ, ◌+◌, ◌*◌, ◌≤◌, Bool, true, false, cond, List, [], ◌∷◌, ◌++◌, map, length, drop, ◌==◌, ◌≢◌, sym, refl, ap, ap₂, ◌∙◌, subst, append_assoc, arith, length-append}
use Rattle.std.specs.List.{flat_map, AllByRecursion}
use Rattle.std.proofs.lemmas.List.{append-nil, drop_at, length-map}
use Rattle.std.proofs.lemmas.Bool.{eq-eqb, ne_eqb}
use Rattle.envelope.specs.Messages.{largest_message}
use Rattle.sequencer.specs.Places.{Starts, message_at, starts_from, starts_of}
use Rattle.sequencer.specs.Records.{Entry, OnlyRecords, entries, first, messages_of, of_group, record_of, record_size, said_length}
use Rattle.sequencer.specs.Bounds.{Proper, count_messages, proper_entries, spacious}
use Rattle.sequencer.proofs.Decoding.{begins_of, entries_more, first_of, length_record}

-- a filter goes on at the end of a list
cond_append : {X : Type 0} (b : Bool) (x : X) (xs ys zs : List X) → zs ≡ xs ++ ys
    → cond b (x ∷ zs) zs ≡ cond b (x ∷ xs) xs ++ ys
cond_append true x xs ys zs e = ap (λ l. x ∷ l) e
cond_append false x xs ys zs e = e

-- one more entry is one more message of its group
of_group_more : (g : ℕ) (es : List Entry) (e : Entry)
    → of_group g (es ++ e ∷ []) ≡ of_group g es ++ cond (e.group == g) (e.message ∷ []) []
of_group_more g [] e = refl
of_group_more g (x ∷ es) e = cond_append (x.group == g) x.message _ _ _ (of_group_more g es e)

module _ (lead : ℕ) (low : lead ≤ 1) where
  -- and one more start
  starts_from_more : (g at end : ℕ) (es : List Entry) (e : Entry) → end ≡ at + length (flat_map (record_of lead) es)
      → starts_from lead g at (es ++ e ∷ []) ≡ starts_from lead g at es ++ cond (e.group == g) (end ∷ []) []
  starts_from_more g at end [] e l =
      ap (λ p. cond (e.group == g) (p ∷ []) []) (let same : at ≡ end = omega arith in same)
  starts_from_more g at end (x ∷ es) e l =
      let long = length-append (record_of lead x) (flat_map (record_of lead) es) in
      let next : ℕ = at + record_size lead (length x.message) in
      let later = starts_from_more g next end es e (omega (arith, length_record lead low x)) in
      cond_append (x.group == g) at _ _ _ later

  -- the entries of a group start where the starts say, and their messages stand there
  record Found (bs : List ℕ) (ms : List (List ℕ)) (ps : List ℕ) : Type 0 where
    start : AllByRecursion (Starts lead bs) ps
    read : ms ≡ map (message_at lead bs) ps

  found_if : (b : Bool) (bs m : List ℕ) (ms : List (List ℕ)) (p : ℕ) (ps : List ℕ) → Starts lead bs p
      → m ≡ message_at lead bs p → Found bs ms ps → Found bs (cond b (m ∷ ms) ms) (cond b (p ∷ ps) ps)
  found_if true bs m ms p ps s r h = record { start = (s, h.start); read = ap₂ (λ x xs. x ∷ xs) r h.read }
  found_if false bs m ms p ps s r h = h

  found_from : (g at : ℕ) (bs front : List ℕ) (es : List Entry) → bs ≡ front ++ flat_map (record_of lead) es
      → length front ≡ at → AllByRecursion (Proper lead) es → Found bs (of_group g es) (starts_from lead g at es)
  found_from g at bs front [] is l ps = record { start = tt; read = refl }
  found_from g at bs front (e ∷ es) is l ps =
      let rest = flat_map (record_of lead) es in
      let here : drop at bs ≡ record_of lead e ++ rest =
      ap (drop at) is ∙ drop_at front (record_of lead e ++ rest) at l in
      let later =
      found_from g (at + record_size lead (length e.message)) bs (front ++ record_of lead e) es
      (is ∙ sym (append_assoc front (record_of lead e) rest))
      (omega (arith, l, length-append front (record_of lead e), length_record lead low e)) ps.1 in
      let s = spacious lead 0 _ _ (begins_of lead low e ps.0 rest) in
      let starts : Starts lead bs at = record {
        few = subst (λ q. said_length lead q ≤ largest_message) (sym here) s.sized.1;
        inside = subst (λ q. at + record_size lead (said_length lead q) ≤ length bs) (sym here)
            (omega (arith, s.inside, ap length is, length-append front (record_of lead e ++ rest)));
      } in
      found_if (e.group == g) bs e.message (of_group g es) at _ starts
      (sym (ap (λ q. (first lead q).message) here ∙ ap (λ x. x.message) (first_of lead low e ps.0 rest))) later

  -- the facts of bytes that are records
  module _ (bs : List ℕ) (whole : OnlyRecords lead bs) (g : ℕ) where
    found : Found bs (messages_of lead bs g) (starts_of lead bs g)
    found = found_from g 0 bs [] (entries lead bs) (sym whole) refl (proper_entries lead bs)

    pub starts_in_place : AllByRecursion (Starts lead bs) (starts_of lead bs g)
    starts_in_place = found.start

    pub messages_at : messages_of lead bs g ≡ map (message_at lead bs) (starts_of lead bs g)
    messages_at = found.read

    pub count_starts : record_size lead 1 * length (starts_of lead bs g) ≤ length bs
    count_starts =
        let same = ap length messages_at ∙ length-map (starts_of lead bs g) (message_at lead bs) in
        subst (λ n. record_size lead 1 * n ≤ length bs) same (count_messages lead bs g)

    module _ (e : Entry) (p : Proper lead e) where
      pub messages_more : messages_of lead (bs ++ record_of lead e) g
          ≡ messages_of lead bs g ++ cond (e.group == g) (e.message ∷ []) []
      messages_more = ap (of_group g) (entries_more lead low bs whole e p) ∙ of_group_more g (entries lead bs) e

      pub starts_more : starts_of lead (bs ++ record_of lead e) g
          ≡ starts_of lead bs g ++ cond (e.group == g) (length bs ∷ []) []
      starts_more =
          ap (starts_from lead g 0) (entries_more lead low bs whole e p)
          ∙ starts_from_more g 0 (length bs) (entries lead bs) e (omega (arith, ap length whole))

  -- the starts of the entry's own group, and those of another
  module _ (bs : List ℕ) (whole : OnlyRecords lead bs) (e : Entry) (p : Proper lead e) where
    pub starts_own : starts_of lead (bs ++ record_of lead e) e.group ≡ starts_of lead bs e.group ++ length bs ∷ []
    starts_own =
        starts_more bs whole e.group e p
        ∙ ap (λ b. starts_of lead bs e.group ++ cond b (length bs ∷ []) []) (eq-eqb e.group e.group refl)

    pub starts_other : (g : ℕ) → (g ≢ e.group) → starts_of lead bs g ≡ starts_of lead (bs ++ record_of lead e) g
    starts_other g ne =
        let others = ne_eqb e.group g (λ q. ne (sym q)) in
        sym (starts_more bs whole g e p ∙ ap (λ b. starts_of lead bs g ++ cond b (length bs ∷ []) []) others
        ∙ append-nil (starts_of lead bs g))

  -- a slice of these bytes, and an index that has the starts of a group
  module _ (bs slice starts : List ℕ) (g : ℕ) (is : slice ≡ bs) (whole : OnlyRecords lead bs)
      (indexed : starts ≡ starts_of lead bs g) where
    pub indexed_starts : AllByRecursion (Starts lead slice) starts
    indexed_starts =
        subst (λ l. AllByRecursion (Starts lead l) starts) (sym is)
        (subst (AllByRecursion (Starts lead bs)) (sym indexed) (starts_in_place bs whole g))

    pub indexed_messages : map (message_at lead slice) starts ≡ messages_of lead bs g
    indexed_messages = ap₂ (λ l ps. map (message_at lead l) ps) is indexed ∙ sym (messages_at bs whole g)
