use Rattle.std.proofs.Common.{◌≡◌, length, refl, rules}
use Rattle.std.proofs.lemmas.Bool.{true≢false}
use Rattle.marks.proofs.Giving.{beyond, marked, says_given}
use Rattle.marks.proofs.stamps.StampsMarkScheme.give.Goals as goal

pub returns : goal.returns
returns c =
    let size : length c.to_bytes.result ≡ 36 = search rules in
    record {
      says = says_given _ 36 c.args.out.now refl c.if-out-lt-STATEMENT_SIZE.false;
      same = λ no. absurd (true≢false no);
      marks = λ _. marked 36 c.args.out.now _ _ size c.put.ensures.after _ c.to_bytes.ensures;
      left = λ _. refl;
      rest = beyond 36 c.args.out.now _ _ size c.put.ensures.after;
      others = λ _ _ _. refl;
      lasts = λ _ _. refl;
    }
