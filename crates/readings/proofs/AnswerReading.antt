-- Answers are read by the function as by the relation.
use Rattle.std.proofs.Common.{◌≡◌, ℕ, ◌+◌, ◌-◌, ◌*◌, ◌≤◌, List, ◌∷◌, ◌++◌, length, get_or, take, drop, Some, None, Decides, Option, refl, ap, ◌∙◌, ap₂, append_assoc, arith}
use Rattle.std.specs.List.{list_all}
use Rattle.std.proofs.lemmas.List.{drop_at, take_at}
use Rattle.std.proofs.lemmas.Bool.Decides.{Decides-and, Decides-eqb, Decides-like, Decides-ltb}
use Rattle.std.proofs.ByRecursion.{Decides-by_and}
use Rattle.octets.specs.Numbers.{Fits64, bytes64}
use Rattle.envelope.specs.Formats.{written}
use Rattle.votes.specs.Grounds.{BlockerFits, ground_byte, ground_end, ground_of}
use Rattle.votes.specs.States.{state_byte, state_of}
use Rattle.votes.specs.Votes.{vote_byte, vote_of}
use Rattle.votes.specs.declared.ground.Blocker.{Blocker}
use Rattle.votes.specs.declared.ground.Ground.TheVariants as ground
use Rattle.votes.specs.declared.state.State.TheVariants as state
use Rattle.votes.specs.declared.vote.Vote.TheVariants.{Abort}
use Rattle.votes.proofs.GroundParts.{ground_back}
use Rattle.votes.proofs.Tables.{state_back, vote_back}
use Rattle.wire.specs.Answers.{AnswerFits, AnswerModel, answer_format, answer_model, values_bytes}
use Rattle.wire.specs.Fields.{name_bytes}
use Rattle.wire.proofs.AnswerParts.{length_values}
use Rattle.readings.specs.Answers.{answer_candidate, answer_of, fits_answer, fits_blocker}
use Rattle.readings.specs.Parts.{fits64, in_order, number_at}
use Rattle.readings.specs.Readings.{SameReading}
use Rattle.readings.proofs.PartsBack.{byte_after, drop_after, in_order_front, name_back, number_back, value_found}
use Rattle.readings.proofs.ProposalReading.{decides_name}
use Rattle.readings.proofs.Readings.{Suits, decides_leb, same_reading}

decides_blocker : (o : Option Blocker) → Decides (fits_blocker o) (BlockerFits o)
decides_blocker None = ((λ _. tt), λ _. refl)
decides_blocker (Some b) = Decides-and _ _ (decides_name b.name) (Decides-ltb _ _)

decides_answer : (m : ℕ) (a : AnswerModel) → Decides (fits_answer m a) (AnswerFits m a)
decides_answer m a =
    let each = Decides-by_and fits64 Fits64 (list_all fits64) (λ v. Decides-ltb v _) refl (λ _ _. refl) a.reads in
    Decides-like _
    (λ p. record {
      name_fits = p.0;
      group_fits = p.1.0;
      replica_fits = p.1.1.0;
      ground_fits = p.1.1.1.0;
      mark_fits = p.1.1.1.1.0;
      small = p.1.1.1.1.1.0;
      few = p.1.1.1.1.1.1.0;
      fit = p.1.1.1.1.1.1.1;
    })
    (λ f. (f.name_fits, (f.group_fits, (f.replica_fits, (f.ground_fits, (f.mark_fits, (f.small, (f.few, f.fit))))))))
    (Decides-and _ _ (decides_name a.name)
    (Decides-and _ _ (Decides-ltb a.group _)
    (Decides-and _ _ (Decides-ltb a.replica _)
    (Decides-and _ _ (decides_blocker _)
    (Decides-and _ _ (Decides-eqb _ _)
    (Decides-and _ _ (decides_leb _ _) (Decides-and _ _ (decides_leb _ _) each)))))))

value_back : (v : ℕ) (t : List ℕ) → Fits64 v → number_at 0 8 (bytes64 v ++ t) ≡ v
value_back v t fits = number_back 8 v fits

module _ (m : ℕ) (a : AnswerModel) (fits : AnswerFits m a) where
  -- what follows the name
  abbrev after : List ℕ
  after =
      a.group ∷ a.replica ∷ vote_byte a.vote ∷ state_byte a.state ∷ ground_byte a.ground
      ∷ (a.mark ++ (values_bytes a.reads ++ ground_end a.ground))

  abbrev bs : List ℕ
  bs = name_bytes a.name ++ after

  byte : (i : ℕ) → 32 ≤ i → get_or bs i 0 ≡ get_or after (i - 32) 0
  byte = byte_after a.name after fits.name_fits

  from_mark : drop 37 bs ≡ a.mark ++ (values_bytes a.reads ++ ground_end a.ground)
  from_mark = drop_after a.name after fits.name_fits 5

  from_reads : drop m (drop 37 bs) ≡ values_bytes a.reads ++ ground_end a.ground
  from_reads = ap (drop m) from_mark ∙ drop_at a.mark _ m fits.mark_fits

  many : get_or (drop m (drop 37 bs)) 0 0 ≡ length a.reads
  many = ap (λ l. get_or l 0 0) from_reads

  reads_back : in_order (number_at 0 8) bytes64 (get_or (drop m (drop 37 bs)) 0 0) (drop 1 (drop m (drop 37 bs))) ≡ a.reads
  reads_back =
      ap₂ (in_order (number_at 0 8) bytes64) many (ap (drop 1) from_reads)
      ∙ in_order_front Fits64 bytes64 (number_at 0 8) value_back a.reads (ground_end a.ground) fits.fit

  end : drop (1 + 8 * get_or (drop m (drop 37 bs)) 0 0) (drop m (drop 37 bs)) ≡ ground_end a.ground
  end =
      let size : length (values_bytes a.reads) ≡ 1 + 8 * length a.reads = omega (arith, length_values a.reads) in
      ap₂ (λ n l. drop (1 + 8 * n) l) many from_reads
      ∙ drop_at (values_bytes a.reads) (ground_end a.ground) _ size

  -- the four first bytes do not matter
  fields_back : answer_candidate m (0 ∷ 0 ∷ 0 ∷ 0 ∷ bs) ≡ a
  fields_back =
      let name = name_back a.name after fits.name_fits in
      let vote = value_found _ a.vote Abort (ap vote_of (byte 34 (omega arith)) ∙ vote_back a.vote) in
      let state = value_found _ a.state state.Pending (ap state_of (byte 35 (omega arith)) ∙ state_back a.state) in
      let found = ap₂ ground_of (byte 36 (omega arith)) end ∙ ground_back a.ground fits.ground_fits in
      let ground = value_found _ a.ground ground.Pending found in
      let mark = ap (take m) from_mark ∙ take_at a.mark _ m fits.mark_fits in
      let group = byte 32 (omega arith) in
      let replica = byte 33 (omega arith) in
      λ i. record {
        name = name i;
        group = group i;
        replica = replica i;
        vote = vote i;
        state = state i;
        ground = ground i;
        mark = mark i;
        reads = reads_back i;
      }

  answer_back : answer_candidate m (written (answer_format m) a) ≡ a
  unfolding written
  answer_back =
      ap (λ l. answer_candidate m (0 ∷ 0 ∷ 0 ∷ 0 ∷ l)) (append_assoc (name_bytes a.name) _ _) ∙ fields_back

suits : (m : ℕ) → Suits (answer_format m) (fits_answer m) (answer_candidate m)
suits m = record { decides = decides_answer m; back = answer_back m }

pub answer_reading : (m : ℕ) → SameReading (answer_format m) answer_model (answer_of m)
unfolding answer_of
answer_reading m = same_reading (answer_format m) (fits_answer m) (answer_candidate m) (suits m) answer_model
