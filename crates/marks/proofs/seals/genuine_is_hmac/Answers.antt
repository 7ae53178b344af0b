use Rattle.std.proofs.Common.{◌≡◌, ℕ, Bool, List, Decides, sym, ap, ◌∙◌}
use Rattle.std.specs.Str.{bytes_eq}
use Rattle.std.proofs.lemmas.Slice.Eq.{bytes_eq-Decides}
use Rattle.marks.specs.Seals.{seal_at}
use Rattle.marks.proofs.seals.genuine_is_hmac.Goals as goal

turned : (xs ys : List ℕ) (b : Bool) → b ≡ bytes_eq xs ys → Decides b (ys ≡ xs)
turned xs ys b is =
    let d = bytes_eq-Decides xs ys in
    (λ yes. sym (d.0 (sym is ∙ yes)), λ e. is ∙ d.1 (sym e))

pub returns : goal.returns
returns c =
    record {
      keyed = λ holders s i mark at. turned _ mark _ (ap (λ p. seal_at holders p s mark) at);
      keyless = λ holders s mark at. ap (λ p. seal_at holders p s mark) at;
    }
