-- What a message that only asks for an answer leaves of the book.
use Rattle.std.proofs.Common.{◌≡◌, Bool, true, false, cond, [], ◌∷◌, Some, None, Option, refl, ap, ◌∙◌, sym}
use Rattle.std.specs.Option.{option_map}
use Rattle.std.specs.Ordering.{is_eq}
use Rattle.envelope.specs.declared.name.Name.{Name}
use Rattle.table.specs.Orders.{by_bytes}
use Rattle.table.specs.Rows.{changed, lookup}
use Rattle.table.specs.declared.row.Row.{Row}
use Rattle.votes.specs.declared.state.State.{State}
use Rattle.votes.specs.declared.state.State.TheVariants.{Pending, Committed, RolledBack, Declined}
use Rattle.replica.specs.Meetings.{is_question, met_by, met_named}
use Rattle.replica.specs.Models.{Book}
use Rattle.replica.specs.Steps.{state_after}
use Rattle.replica.specs.declared.book.Delivered.{Delivered}
use Rattle.replica.specs.declared.book.Delivered.TheVariants.{Body, Proposal, Certificate}

-- an entry with another state
abbrev restated : Row Name State → State → Row Name State
restated r s = record { key = r.key; value = s }

-- a message that only asks for an answer leaves the state, and the book
pub question_leaves : (s : State) (d : Delivered) → is_question d ≡ true → state_after s d ≡ s
question_leaves Pending Body e = refl
question_leaves Pending Proposal e = refl
question_leaves Pending (Certificate v) e = cc
question_leaves Committed d e = refl
question_leaves RolledBack d e = refl
question_leaves Declined d e = refl

changed_to_same : (rs : Book) (x : Name) (s : State) → lookup by_bytes rs x ≡ Some s → changed by_bytes rs x s ≡ rs
changed_to_same [] x s e = refl
changed_to_same (r ∷ rs) x s e = go (changed_to_same rs x s) (is_eq (by_bytes x r.key)) refl
  where
    go : (lookup by_bytes rs x ≡ Some s → changed by_bytes rs x s ≡ rs) →
        (b : Bool) → is_eq (by_bytes x r.key) ≡ b → changed by_bytes (r ∷ rs) x s ≡ r ∷ rs
    go rest true h =
        let v : r.value ≡ s = cc in
        ap (λ b. cond b (restated r s ∷ rs) (r ∷ changed by_bytes rs x s)) h ∙ ap (λ (t : State). restated r t ∷ rs) (sym v)
    go rest false h =
        ap (λ b. cond b (restated r s ∷ rs) (r ∷ changed by_bytes rs x s)) h ∙ ap (λ (es : Book). r ∷ es) (rest (cc))

pub question_keeps : (rs : Book) (x : Name) (d : Delivered) → is_question d ≡ true → met_named rs x d ≡ rs
question_keeps rs x d e = go (lookup by_bytes rs x) refl
  where
    go : (o : Option State) → lookup by_bytes rs x ≡ o → met_by rs x d o ≡ rs
    go None f = refl
    go (Some s) f =
        ap (λ (t : State). changed by_bytes rs x t) (question_leaves s d e) ∙ changed_to_same rs x s f

pub question_state : (o : Option State) (d : Delivered) → is_question d ≡ true → option_map (λ s. state_after s d) o ≡ o
question_state None d e = refl
question_state (Some s) d e = ap Some (question_leaves s d e)
