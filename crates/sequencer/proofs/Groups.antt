-- Records, by the index of each group.
use Rattle.std.proofs.Common.{◌≡◌, ℕ, zero, suc, ◌*◌, ◌/◌, ◌<◌, ◌≤◌, Bool, true, false, cond, List, [], ◌∷◌, ◌++◌, map, length, get_or, take, set, Some, None, ◌≢◌, ◌==◌, nat_lt, slice_index, sym, refl, ap, ap₂, ◌∙◌, subst, ⊎_elim, Vec, Global, vec_items, vec_len, vec_capacity, arith, length-set}
use Rattle.std.specs.Option.{option_map}
use Rattle.std.specs.List.{All, range_with_len, slice_get}
use Rattle.std.proofs.ByRecursion.{All-get_or}
use Rattle.std.proofs.Math.Nat.{le-div_iff_mul-le}
use Rattle.std.proofs.lemmas.List.{get_or-set_other, get_or-set_same}
use Rattle.std.proofs.lemmas.Bool.{and_parts, cases_eq, cond-true, cond-false, eqb-true, false≢true, le-ltb, lt-ltb, ltb-true}
use Rattle.std.proofs.lemmas.Option.{slice_get-map, slice_get_past, slice_get_read}
use Rattle.sequencer.specs.Lists.{is_nil}
use Rattle.sequencer.specs.Places.{Starts, message_at, starts_of}
use Rattle.sequencer.specs.Records.{OnlyRecords, entries, messages_of, record_of, record_size}
use Rattle.sequencer.specs.Tapes.{TapeLeft, groups_of, tape_fits, tape_lists}
use Rattle.sequencer.specs.Bounds.{Proper, Spacious, spacious}
use Rattle.sequencer.specs.declared.records.Records.{Records}
use Rattle.sequencer.proofs.Decoding.{only_more}
use Rattle.sequencer.proofs.Starting.{count_starts, indexed_messages, indexed_starts, messages_more, starts_other, starts_own}

-- no bytes store nothing
pub only_none : (lead : ℕ) → OnlyRecords lead []
unfolding entries
only_none lead = refl

pub starts_none : (lead g : ℕ) → starts_of lead [] g ≡ []
unfolding entries
starts_none lead g = refl

pub all_starts_none : (lead n : ℕ) → map (λ _. []) (range_with_len 0 n) ≡ map (starts_of lead []) (range_with_len 0 n)
unfolding entries
all_starts_none lead n = refl

pub messages_none : (lead g : ℕ) → messages_of lead [] g ≡ []
unfolding entries
messages_none lead g = refl

pub is_nil_map : {X Y : Type 0} (f : X → Y) (xs : List X) → is_nil (map f xs) ≡ is_nil xs
is_nil_map f [] = refl
is_nil_map f (x ∷ xs) = refl

-- an index of full size has space for one more start where a record has space
pub index_space : (lead used size n count limit : ℕ) → Spacious lead used size n → record_size lead 1 * count ≤ used
    → size / record_size lead 1 ≤ limit → count < limit
index_space lead used size n count limit h few fits =
    let some : 0 < record_size lead 1 = omega arith in
    let more : suc count ≤ size / record_size lead 1 =
    (le-div_iff_mul-le some).1 (omega (arith, few, h.inside, h.sized.0)) in
    omega (arith, more, fits)

-- what holds of each element and its place still does after one of them has become y
each_set : {X : Type 0} (P : ℕ → X → Type 0) (xs : List X) (g : ℕ) (y : X) → g < length xs → P g y
    → ((h : ℕ) (d : X) → h < length xs → (h ≢ g) → P h (get_or xs h d))
    → (h : ℕ) (d : X) → h < length (set xs g y) → P h (get_or (set xs g y) h d)
each_set P xs g y within p ps h d l =
    ⊎_elim
    (λ q. subst (λ k. P k (get_or (set xs g y) k d)) (sym q) (subst (P g) (sym (get_or-set_same xs g y d within)) p))
    (λ q. subst (P h) (sym (get_or-set_other xs g h y d q)) (ps h d (omega (arith, l, length-set xs g y)) q))
    (cases_eq h g)

-- a group that there is can be told by its label
placed : (lead g n : ℕ) → lead ≤ 1 → (lead ≡ 0 → n ≡ 1) → g < n → slice_index (take lead (g ∷ [])) 0 ≡ g
placed zero g n low single within = omega (arith, single refl)
placed (suc zero) g n low single within = refl
placed (suc (suc k)) g n low single within = absurd (omega arith)

-- a list that is there grew, and one that is not did not
list_grown : {X : Type 0} (b c : Bool) (xs xs' ys : List X) → (c ≡ true → b ≡ true) → xs' ≡ xs ++ cond c ys []
    → cond b xs' [] ≡ cond b xs [] ++ cond c ys []
list_grown true c xs xs' ys there e = e
list_grown false true xs xs' ys there e = absurd (false≢true (there refl))
list_grown false false xs xs' ys there e = refl

-- where each list of messages grew by those to its group, so did each list of the groups that there are
pub list_more : (n g h : ℕ) (ms ms' ks : List (List ℕ)) → g < n → ms' ≡ ms ++ cond (g == h) ks []
    → cond (nat_lt h n) ms' [] ≡ cond (nat_lt h n) ms [] ++ cond (g == h) ks []
list_more n g h ms ms' ks l =
    list_grown (nat_lt h n) (g == h) ms ms' ks (λ q. subst (λ k. nat_lt k n ≡ true) (eqb-true g h q) (lt-ltb g n l))

module _ {lead : ℕ} (t : Records lead) (g : ℕ) where
  -- a group that there is not
  pub listed_none : length t.indexes.items ≤ g → tape_lists t g ≡ []
  listed_none l = cond-false _ _ _ (le-ltb _ _ l)

  -- the index i of a group that there is
  module _ (i : Vec ℕ Global) (is : i ≡ get_or t.indexes.items g i) (within : g < length t.indexes.items) where
    indexed : vec_items i ≡ starts_of lead t.bytes.items g
    indexed = ap vec_items is ∙ t.indexed g i within

    pub listed : tape_lists t g ≡ map (message_at lead t.bytes.items) i.items
    listed =
        cond-true _ _ _ (lt-ltb _ _ within)
        ∙ sym (indexed_messages lead t.lead t.bytes.items t.bytes.items i.items g refl t.whole indexed)

    pub numbered_past : (n : ℕ) → length i.items ≤ n → slice_get (tape_lists t g) n ≡ None
    numbered_past n l =
        ap (λ ms. slice_get ms n) listed ∙ slice_get-map _ i.items n ∙ ap (option_map _) (slice_get_past i.items n l)

    module _ (n p : ℕ) (at : p ≡ get_or i.items n p) (l : n < length i.items) where
      pub numbered : slice_get (tape_lists t g) n ≡ Some (message_at lead t.bytes.items p)
      numbered =
          ap (λ ms. slice_get ms n) listed ∙ slice_get-map _ i.items n
          ∙ ap (option_map _) (slice_get_read i.items _ n p refl l at)

      pub started : Starts lead t.bytes.items p
      started =
          let all = indexed_starts lead t.lead t.bytes.items t.bytes.items i.items g refl t.whole indexed in
          subst (Starts lead t.bytes.items) (sym at) (All-get_or (Starts lead t.bytes.items) i.items n p l all)

  -- a message that fits
  module _ (m : List ℕ) (fits : tape_fits t g (length m) ≡ true) where
    parts : (g < length t.indexes.items) × Spacious lead (length t.bytes.items) t.size (length m)
    parts =
        let both = and_parts (nat_lt g (groups_of t)) _ fits in
        (ltb-true _ _ both.0, spacious lead _ _ _ both.1)

    proper : Proper lead (record { group = g; message = m })
    proper = record { placed = placed lead g _ t.lead t.single parts.0; sized = parts.1.sized }

    -- the bytes with its record
    module _ (bs : List ℕ) (more : bs ≡ t.bytes.items ++ record_of lead (record { group = g; message = m })) where
      pub whole_more : OnlyRecords lead bs
      whole_more = subst (OnlyRecords lead) (sym more) (only_more lead t.lead t.bytes.items t.whole _ proper)

      -- the index of the group with one more start
      pub indexed_more : (i i' : Vec ℕ Global) (k : ℕ) → i ≡ get_or t.indexes.items g i → k ≡ length t.bytes.items
          → vec_items i' ≡ vec_items i ++ k ∷ [] → (h : ℕ) (d : Vec ℕ Global)
          → h < length (set t.indexes.items g i') → vec_items (get_or (set t.indexes.items g i') h d) ≡ starts_of lead bs h
      indexed_more i i' k is at e =
          let own : vec_items i' ≡ starts_of lead bs g =
          e ∙ ap₂ (λ ps p. ps ++ p ∷ []) (indexed i is parts.0) at
          ∙ sym (ap (λ l. starts_of lead l g) more ∙ starts_own lead t.lead t.bytes.items t.whole _ proper) in
          each_set (λ h x. vec_items x ≡ starts_of lead bs h) t.indexes.items g i' parts.0 own
          (λ h d l ne. t.indexed h d l ∙ starts_other lead t.lead t.bytes.items t.whole _ proper h ne
          ∙ ap (λ l. starts_of lead l h) (sym more))

    module _ (i : Vec ℕ Global) (is : i ≡ get_or t.indexes.items g i) where
      enough : t.size / record_size lead 1 ≤ vec_capacity i
      enough = omega (arith, ap vec_capacity is, t.limit g i parts.0)

      pub room : vec_len i < vec_capacity i
      room =
          let used =
          subst (λ n. record_size lead 1 * n ≤ length t.bytes.items) (sym (i.ok.0 ∙ ap length (indexed i is parts.0)))
          (count_starts lead t.lead t.bytes.items t.whole g) in
          index_space lead (length t.bytes.items) t.size (length m) (vec_len i) (vec_capacity i) parts.1 used enough

      pub limit_more : (i' : Vec ℕ Global) → vec_capacity i' ≡ vec_capacity i
          → All (λ x. t.size / record_size lead 1 ≤ vec_capacity x) (set t.indexes.items g i')
      limit_more i' e =
          each_set (λ h x. t.size / record_size lead 1 ≤ vec_capacity x) t.indexes.items g i' parts.0
          (omega (arith, e, enough)) (λ h d l ne. t.limit h d l)

    -- each list has the messages that it had, and its own at the end
    pub lists_more : (t' : Records lead) → TapeLeft t g m t'
        → (h : ℕ) → tape_lists t' h ≡ tape_lists t h ++ cond (g == h) (m ∷ []) []
    lists_more t' left h =
        ap (λ n. cond (nat_lt h n) (messages_of lead t'.bytes.items h) []) left.1
        ∙ list_more (groups_of t) g h _ _ _ parts.0
        (ap (λ b. messages_of lead b.used h) left.0 ∙ messages_more lead t.lead t.bytes.items t.whole h _ proper)
