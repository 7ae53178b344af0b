-- What the parts that were read say of the answer that the bytes are.
use Rattle.std.proofs.Common.{◌≡◌, ℕ, ◌-◌, ◌*◌, ◌<◌, ◌≤◌, List, [], ◌∷◌, ◌++◌, length, get_or, take, drop, Some, None, Option, sym, refl, ap, ◌∙◌, ap₂, append_assoc, arith, length-append}
use Rattle.std.specs.Borrow.{Bor}
use Rattle.std.specs.Fn.{FnReturnsAt, Shared}
use Rattle.std.specs.List.{flat_map}
use Rattle.octets.specs.Numbers.{Fits64, bytes64}
use Rattle.octets.proofs.Begins.{begins}
use Rattle.octets.proofs.OneWriting.{same_number}
use Rattle.envelope.specs.Formats.{OneWriting}
use Rattle.envelope.proofs.Envelopes.{same_contents}
use Rattle.envelope.proofs.Sequences.{Fronts, Same, many_read, none_read, same_fronts}
use Rattle.envelope.specs.Many.{ReadsMany}
use Rattle.envelope.specs.declared.name.Name.{Name}
use Rattle.wire.specs.Answers.{AnswerFits, AnswerModel, FirstValues, HeadFits, ValuesFit, answer_contents, answer_format, head_bytes, head_of, values_bytes}
use Rattle.wire.specs.Fields.{NameFits, name_bytes}
use Rattle.votes.specs.Grounds.{GroundFits, ground_byte, ground_end, ground_of}
use Rattle.votes.specs.Marks.{largest_mark}
use Rattle.votes.specs.Values.{most_values}
use Rattle.lists.specs.declared.BoundedList.{BoundedList}
use Rattle.votes.specs.States.{state_byte, state_of}
use Rattle.votes.specs.Votes.{vote_byte, vote_of}
use Rattle.wire.specs.declared.answer.reader.Head.{Head}
use Rattle.votes.specs.declared.ground.Ground.{Ground}
use Rattle.votes.specs.declared.state.State.{State}
use Rattle.votes.specs.declared.vote.Vote.{Vote}
use Rattle.votes.proofs.GroundParts.{ground_back, ground_is, ground_small}
use Rattle.wire.proofs.OneName.{same_name}
use Rattle.wire.proofs.SameFront.{same_front}
use Rattle.votes.proofs.Tables.{state_back, state_is, vote_back, vote_is}

-- each value is written in eight bytes
pub length_values : (vs : List ℕ) → length (flat_map bytes64 vs) ≡ 8 * length vs
length_values [] = refl
length_values (v ∷ vs) = let h = length_values vs in omega arith

pub same_value : Same Fits64 bytes64
same_value = same_number 8

-- bs is a count and the rest, off which f reads as many values
module _ (bs : List ℕ) (count : ℕ) (rest : List ℕ) (e : bs ≡ count ∷ rest) (few : count ≤ most_values) {F : Type 0}
    (g : Shared F (Bor (List ℕ) × Unit {0}) (Option (ℕ × Bor (List ℕ)))) (f : F) (front : Fronts Fits64 bytes64 g f) where
  pub first_values : (r : Option (BoundedList ℕ most_values × Bor (List ℕ))) → ReadsMany count (FnReturnsAt g f) rest r → FirstValues bs r
  first_values (Some p) h =
      let s = many_read Fits64 bytes64 g f rest _ _ h.1 front in
      ((omega (arith, h.0), s.fit), cc (e, h.0, s.split))
  first_values None h = λ vs t fit w.
      let n : count ≡ length vs = cc (e, w) in
      none_read Fits64 bytes64 g f same_value count rest h front vs t (sym n) fit.1 (cc (e, w))

-- no writing of values begins another's
same_values : Same ValuesFit values_bytes
same_values vs ws s t f g e =
    let n : length vs ≡ length ws = cc in
    let j : flat_map bytes64 vs ++ s ≡ flat_map bytes64 ws ++ t = cc in
    same_fronts Fits64 bytes64 same_value vs ws s t f.1 g.1 n j

-- no writing of the fields before the mark begins another's
pub same_head : Same HeadFits head_bytes
same_head x y s t f g e =
    let split : (h : Head) (r : List ℕ) → head_bytes h ++ r
    ≡ name_bytes h.name ++ (h.group ∷ h.replica ∷ vote_byte h.vote ∷ state_byte h.state ∷ h.ground ∷ r) =
    λ h r. append_assoc (name_bytes h.name) _ r in
    let n = same_name x.name y.name _ _ f.name_fits g.name_fits (sym (split x s) ∙ e ∙ split y t) in
    let group : x.group ≡ y.group = cc n.1 in
    let replica : x.replica ≡ y.replica = cc n.1 in
    let v : vote_byte x.vote ≡ vote_byte y.vote = cc n.1 in
    let w : state_byte x.state ≡ state_byte y.state = cc n.1 in
    let ground : x.ground ≡ y.ground = cc n.1 in
    let rest : s ≡ t = cc n.1 in
    let vote : x.vote ≡ y.vote = cc (vote_back x.vote, vote_back y.vote, v) in
    let state : x.state ≡ y.state = cc (state_back x.state, state_back y.state, w) in (
      (λ i. record { name = n.0 i; group = group i; replica = replica i; vote = vote i; state = state i; ground = ground i }),
      rest,
    )

-- bs begins with no fields of an answer
abbrev pub NoHead : List ℕ → Type 0
NoHead bs = (h : Head) (t : List ℕ) → HeadFits h → bs ≡ head_bytes h ++ t → ⊥

pub head_no_name : (bs : List ℕ) → ((x : Name) (t : List ℕ) → NameFits x → bs ≡ name_bytes x ++ t → ⊥) → NoHead bs
head_no_name bs none h t f e = none h.name _ f.name_fits (e ∙ append_assoc (name_bytes h.name) _ t)

-- bs is a name and what follows it
module _ (bs : List ℕ) (x : Name) (fits : NameFits x) (after : List ℕ) (e : bs ≡ name_bytes x ++ after) where
  after_name : (h : Head) (t : List ℕ) → HeadFits h → bs ≡ head_bytes h ++ t
      → after ≡ h.group ∷ h.replica ∷ vote_byte h.vote ∷ state_byte h.state ∷ h.ground ∷ t
  after_name h t f w =
      (same_name x h.name after _ fits f.name_fits (sym e ∙ w ∙ append_assoc (name_bytes h.name) _ t)).1

  pub head_short : length after < 5 → NoHead bs
  head_short short h t f w = omega (arith, ap length (after_name h t f w))

  -- five bytes and the rest follow
  module _ (g r v s k : ℕ) (rest : List ℕ) (e' : after ≡ g ∷ r ∷ v ∷ s ∷ k ∷ rest) where
    pub head_no_vote : None ≡ vote_of v → NoHead bs
    head_no_vote none h t f w =
        let same : v ≡ vote_byte h.vote = cc (after_name h t f w, e') in
        let z : Some h.vote ≡ None = sym (vote_back h.vote) ∙ sym (ap vote_of same) ∙ sym none in
        let y : ◌≡◌ {A = ℕ} 0 1 = cc in
        omega arith

    pub head_no_state : None ≡ state_of s → NoHead bs
    head_no_state none h t f w =
        let same : s ≡ state_byte h.state = cc (after_name h t f w, e') in
        let z : Some h.state ≡ None = sym (state_back h.state) ∙ sym (ap state_of same) ∙ sym none in
        let y : ◌≡◌ {A = ℕ} 0 1 = cc in
        omega arith

    pub the_head : (vote : Vote) (state : State) → Some vote ≡ vote_of v → Some state ≡ state_of s
        → g < 256 → r < 256 → k < 256
        → HeadFits (record { name = x; group = g; replica = r; vote = vote; state = state; ground = k })
        × (bs ≡ head_bytes (record { name = x; group = g; replica = r; vote = vote; state = state; ground = k }) ++ rest)
    the_head vote state is_vote is_state a b c =
        let five = g ∷ r ∷ vote_byte vote ∷ state_byte state ∷ k ∷ [] in
        let bytes : after ≡ five ++ rest = cc (e', vote_is v vote (sym is_vote), state_is s state (sym is_state)) in (
          record { name_fits = fits; group_fits = a; replica_fits = b; ground_fits = c },
          e ∙ ap (λ l. name_bytes x ++ l) bytes ∙ sym (append_assoc (name_bytes x) five rest),
        )

-- the first five bytes and the rest, as a slice pattern cuts it off
pub five_off : (bs : List ℕ) → 5 ≤ length bs
    → bs ≡ get_or bs 0 0 ∷ get_or bs 1 0 ∷ get_or bs 2 0 ∷ get_or bs 3 0 ∷ get_or bs 4 0 ∷ take (length bs - 5) (drop 5 bs)
five_off bs l =
    begins bs (get_or bs 0 0 ∷ get_or bs 1 0 ∷ get_or bs 2 0 ∷ get_or bs 3 0 ∷ get_or bs 4 0 ∷ []) l
    (refl, (refl, (refl, (refl, (refl, tt)))))

head_fits : (m : ℕ) (a : AnswerModel) → AnswerFits m a → HeadFits (head_of a)
head_fits m a f =
    record {
      name_fits = f.name_fits;
      group_fits = f.group_fits;
      replica_fits = f.replica_fits;
      ground_fits = ground_small a.ground;
    }

-- bs is no answer's contents
abbrev pub NoAnswer : ℕ → List ℕ → Type 0
NoAnswer m bs = (a : AnswerModel) → AnswerFits m a → bs ≡ answer_contents a → ⊥

pub no_head : (m : ℕ) (bs : List ℕ) → NoHead bs → NoAnswer m bs
no_head m bs none a f e = none (head_of a) _ (head_fits m a f) e

-- bs is the fields before the mark, and what follows them
module _ (m : ℕ) (bs : List ℕ) (h : Head) (hf : HeadFits h) (r₁ : List ℕ) (e₁ : bs ≡ head_bytes h ++ r₁) where
  after_head : (a : AnswerModel) → AnswerFits m a → bs ≡ answer_contents a
      → (h ≡ head_of a) × (r₁ ≡ a.mark ++ (values_bytes a.reads ++ ground_end a.ground))
  after_head a f w = same_head h (head_of a) r₁ _ hf (head_fits m a f) (sym e₁ ∙ w)

  pub short_mark : length r₁ < m → NoAnswer m bs
  short_mark short a f w =
      let rest = values_bytes a.reads ++ ground_end a.ground in
      omega (arith, ap length (after_head a f w).1, length-append a.mark rest, f.mark_fits)

  -- a mark follows
  module _ (mark : List ℕ) (size : length mark ≡ m) (r₂ : List ℕ) (e₂ : r₁ ≡ mark ++ r₂) where
    pub wide_mark : largest_mark < length mark → NoAnswer m bs
    wide_mark large a f w = omega (arith, f.small)

    after_mark : (a : AnswerModel) → AnswerFits m a → bs ≡ answer_contents a
        → (mark ≡ a.mark) × (r₂ ≡ values_bytes a.reads ++ ground_end a.ground)
    after_mark a f w =
        same_front mark a.mark r₂ _ (size ∙ sym f.mark_fits) (sym e₂ ∙ (after_head a f w).1)

    pub no_values : ((vs t : List ℕ) → ValuesFit vs → r₂ ≡ values_bytes vs ++ t → ⊥) → NoAnswer m bs
    no_values none a f w = none a.reads _ (f.few, f.fit) (after_mark a f w).1

    -- the reads follow
    module _ (vs : List ℕ) (vf : ValuesFit vs) (r₃ : List ℕ) (e₃ : r₂ ≡ values_bytes vs ++ r₃) where
      after_reads : (a : AnswerModel) → AnswerFits m a → bs ≡ answer_contents a
          → (vs ≡ a.reads) × (r₃ ≡ ground_end a.ground)
      after_reads a f w = same_values vs a.reads r₃ _ vf (f.few, f.fit) (sym e₃ ∙ (after_mark a f w).1)

      pub no_ground : None ≡ ground_of h.ground r₃ → NoAnswer m bs
      no_ground none a f w =
          let byte : h.ground ≡ ground_byte a.ground = ap (λ x. x.ground) (after_head a f w).0 in
          let z : None ≡ Some a.ground =
          none ∙ ap₂ ground_of byte (after_reads a f w).1 ∙ ground_back a.ground f.ground_fits in
          let y : ◌≡◌ {A = ℕ} 0 1 = cc in
          omega arith

      abbrev made : Ground → List ℕ → AnswerModel
      made g front =
          record {
            name = h.name;
            group = h.group;
            replica = h.replica;
            vote = h.vote;
            state = h.state;
            ground = g;
            mark = front;
            reads = vs;
          }

      pub the_answer : (g : Ground) → Some g ≡ ground_of h.ground r₃ → GroundFits g → length mark ≤ largest_mark
          → (front : List ℕ) → front ≡ mark → AnswerFits m (made g front) × (bs ≡ answer_contents (made g front))
      the_answer g found gf small front is =
          let ground = ground_is h.ground r₃ g found in
          let head : head_of (made g front) ≡ h =
          ap (λ k. record { name = h.name; group = h.group; replica = h.replica; vote = h.vote; state = h.state; ground = k })
          ground.0 in (
            record {
              name_fits = hf.name_fits;
              group_fits = hf.group_fits;
              replica_fits = hf.replica_fits;
              ground_fits = gf;
              mark_fits = ap length is ∙ size;
              small = omega arith;
              few = vf.0;
              fit = vf.1;
            },
            e₁ ∙ ap₂ (λ x l. head_bytes x ++ l) (sym head)
                (e₂ ∙ ap₂ (λ x l. x ++ l) (sym is) (e₃ ∙ ap (λ l. values_bytes vs ++ l) (sym ground.1))),
          )

pub one_writing : (m : ℕ) → OneWriting (answer_format m)
one_writing m a b f g e =
    let s = same_contents (answer_format m) a b e in
    let h = same_head (head_of a) (head_of b) _ _ (head_fits m a f) (head_fits m b g) s in
    let mark = same_front a.mark b.mark _ _ (f.mark_fits ∙ sym g.mark_fits) h.1 in
    let reads = same_values a.reads b.reads _ _ (f.few, f.fit) (g.few, g.fit) mark.1 in
    let byte : ground_byte a.ground ≡ ground_byte b.ground = ap (λ x. x.ground) h.0 in
    let some : Some a.ground ≡ Some b.ground =
    sym (ground_back a.ground f.ground_fits) ∙ ap₂ ground_of byte reads.1
    ∙ ground_back b.ground g.ground_fits in
    let ground : a.ground ≡ b.ground = cc in
    λ i. record {
      name = (h.0 i).name;
      group = (h.0 i).group;
      replica = (h.0 i).replica;
      vote = (h.0 i).vote;
      state = (h.0 i).state;
      ground = ground i;
      mark = mark.0 i;
      reads = reads.0 i;
    }
