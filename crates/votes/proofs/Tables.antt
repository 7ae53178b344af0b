-- Votes and states are told apart by their bytes.
use Rattle.std.proofs.Common.{◌≡◌, ℕ, Bool, true, false, cond, eqb, List, [], ◌∷◌, Some, None, Option, Result, ok_or, sym, refl, ap, ◌∙◌, arith}
use Rattle.std.specs.Result.{result_ok}
use Rattle.std.proofs.lemmas.Bool.{eqb-true}
use Rattle.envelope.specs.declared.fault.ReadFault.{ReadFault}
use Rattle.envelope.specs.declared.fault.ReadFault.TheVariants.{Malformed}
use Rattle.votes.specs.Bytes.{with_byte}
use Rattle.votes.specs.States.{state_byte, state_of}
use Rattle.votes.specs.Votes.{vote_byte, vote_of}
use Rattle.votes.specs.declared.state.State.{State}
use Rattle.votes.specs.declared.state.State.TheVariants.{Pending, Committed, RolledBack, Declined}
use Rattle.votes.specs.declared.vote.Vote.{Vote}
use Rattle.votes.specs.declared.vote.Vote.TheVariants.{Commit, Abort}

-- what has the byte b was found under b
pub with_byte_lem : {X : Type 0} (byte : X → ℕ) (xs : List X) (b : ℕ) (x : X) → with_byte byte xs b ≡ Some x → b ≡ byte x
with_byte_lem byte [] b x e = absurd (let y : ◌≡◌ {A = ℕ} 0 1 = cc in omega arith)
with_byte_lem byte (y ∷ ys) b x e = at (eqb b (byte y)) refl (with_byte_lem byte ys b x) where
  at : (t : Bool) → eqb b (byte y) ≡ t → (with_byte byte ys b ≡ Some x → b ≡ byte x) → b ≡ byte x
  at true is next =
      let same : Some y ≡ Some x = sym (ap (λ t. cond t (Some y) (with_byte byte ys b)) is) ∙ e in
      eqb-true b (byte y) is ∙ ap byte (cc)
  at false is next = next (sym (ap (λ t. cond t (Some y) (with_byte byte ys b)) is) ∙ e)

pub vote_back : (v : Vote) → vote_of (vote_byte v) ≡ Some v
vote_back Commit = refl
vote_back Abort = refl

pub vote_is : (b : ℕ) (v : Vote) → vote_of b ≡ Some v → b ≡ vote_byte v
vote_is = with_byte_lem vote_byte (Commit ∷ Abort ∷ [])

pub state_back : (s : State) → state_of (state_byte s) ≡ Some s
state_back Pending = refl
state_back Committed = refl
state_back RolledBack = refl
state_back Declined = refl

pub state_is : (b : ℕ) (s : State) → state_of b ≡ Some s → b ≡ state_byte s
state_is = with_byte_lem state_byte (Pending ∷ Committed ∷ RolledBack ∷ Declined ∷ [])

-- what a conversion answers, without its fault, is what was found
pub found_ok : {X : Type 0} (o : Option X) (r : Result X ReadFault) → r ≡ ok_or o Malformed → result_ok r ≡ o
found_ok None r e = ap result_ok e
found_ok (Some x) r e = ap result_ok e
