-- An answer as the code has it, and as it is written.
use Rattle.std.proofs.Common.{◌≡◌, ℕ, List, [], ◌∷◌, ◌++◌, length, Some, None, Option, refl, append_assoc}
use Rattle.std.specs.List.{flat_map}
use Rattle.octets.specs.Numbers.{bytes64}
use Rattle.octets.specs.Writers.{optional}
use Rattle.wire.specs.Answers.{AnswerModel, answer_contents}
use Rattle.votes.specs.Grounds.{blocker_bytes, blocker_of, ground_byte}
use Rattle.votes.specs.States.{state_byte}
use Rattle.votes.specs.Votes.{vote_byte}
use Rattle.votes.specs.declared.ground.Blocker.{Blocker}

-- how the code writes what may be a blocker
abbrev pub end_of : Option Blocker → List ℕ
end_of = optional (λ b. blocker_bytes (Some b))

same_end : (o : Option Blocker) → end_of o ≡ blocker_bytes o
same_end (Some b) = refl
same_end None = refl

-- the pieces, as the code has them and writes them, are the contents of a
pub pieces_written : (a : AnswerModel) (vote state ground : ℕ) (mark reads : List ℕ) (blocker : Option Blocker)
    → vote ≡ vote_byte a.vote → state ≡ state_byte a.state → ground ≡ ground_byte a.ground → mark ≡ a.mark
    → reads ≡ a.reads → blocker ≡ blocker_of a.ground
    → ((((a.name.bytes ++ (a.group ∷ a.replica ∷ vote ∷ state ∷ ground ∷ [])) ++ mark) ++ (length reads ∷ []))
    ++ flat_map bytes64 reads) ++ end_of blocker
    ≡ answer_contents a
pieces_written a vote state ground mark reads blocker v s g m r b =
    let five = a.group ∷ a.replica ∷ vote ∷ state ∷ ground ∷ [] in
    let end = same_end blocker in
    let apart : ((((a.name.bytes ++ five) ++ mark) ++ (length reads ∷ [])) ++ flat_map bytes64 reads) ++ end_of blocker
    ≡ (a.name.bytes ++ five) ++ (mark ++ (length reads ∷ (flat_map bytes64 reads ++ end_of blocker))) = simp append_assoc refl in
    cc
