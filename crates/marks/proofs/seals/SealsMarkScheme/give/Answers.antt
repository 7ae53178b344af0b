use Rattle.std.proofs.Common.{◌≡◌, ◌<◌, length, take, sym, refl, ap, ◌∙◌, rules}
use Rattle.std.proofs.lemmas.Bool.{ne_eqb, true≢false}
use Rattle.marks.specs.Seals.{seal_at, spent_at, used_at}
use Rattle.marks.proofs.Giving.{beyond, marked, says_given}
use Rattle.marks.proofs.Holders.{seals_stay, spent_others}
use Rattle.marks.proofs.seals.SealsMarkScheme.give.Goals as goal

pub returns : goal.returns
returns c =
    let hs = c.args.self.now.holders in
    let at = sym c.in_ok-at.ensures.ok_part ∙ c.holder_at.ensures in
    let size : length c.seal.result ≡ 32 = search rules in
    let low : c.in_ok-at.at < length hs = search rules in
    record {
      says =
          says_given _ 32 c.args.out.now (ap (spent_at hs) (sym at) ∙ ne_eqb _ 0 c.if-holder-eq0.false)
          c.if-out-lt-SEAL_SIZE.false;
      same = λ no. absurd (true≢false no);
      marks = λ _.
          ap (λ p. seal_at hs p c.args.statement.now (take 32 c.put.new.out)) (sym at)
          ∙ marked 32 c.args.out.now _ _ size c.put.ensures.after _ c.seal.ensures;
      left = λ _. ap (used_at hs) at;
      rest = beyond 32 c.args.out.now _ _ size c.put.ensures.after;
      others = λ g r other. spent_others hs c.in_ok-at.at _ g r _ _ at other;
      lasts = λ t m. seals_stay hs c.in_ok-at.at _ low refl _ t m;
    }
