use Rattle.std.proofs.Common.{◌≡◌, cond, ◌&&◌, ltb, [], length, sym, refl, ap, ◌∙◌, subst, ap₂}
use Rattle.std.proofs.lemmas.Bool.{cond_both}
use Rattle.sequencer.specs.Records.{OnlyRecords, has_space, messages_of}
use Rattle.sequencer.specs.Places.{starts_of}
use Rattle.sequencer.proofs.Groups.{messages_none, only_none, starts_none}
use Rattle.sequencer.proofs.records.Records.empty.Goals as goal

pub invariant_of-result-clause-whole : goal.invariant_of-result-clause-whole
invariant_of-result-clause-whole g c = subst (OnlyRecords g.row.LEAD) (sym c.in_ok-bytes.ensures.items) (only_none g.row.LEAD)

pub invariant_of-result-clause-indexed : goal.invariant_of-result-clause-indexed
invariant_of-result-clause-indexed g c = λ k d l.
    (c.in_ok-indexes.ensures.empty k d l).0
    ∙ sym (ap (λ bs. starts_of g.row.LEAD bs k) c.in_ok-bytes.ensures.items ∙ starts_none g.row.LEAD k)

pub returns : goal.returns
returns g c =
    let bytes = c.in_ok-bytes.ensures.items in
    let many = c.in_ok-indexes.ensures.len in
    let n = length c.in_ok-indexes.indexes.items in
    record {
      none = λ k.
          ap (λ ms. cond (ltb k n) ms []) (ap (λ bs. messages_of g.row.LEAD bs k) bytes ∙ messages_none g.row.LEAD k)
          ∙ cond_both (ltb k n) [] [] (λ ms. ms ≡ []) (λ _. refl) (λ _. refl);
      empty = λ k m. ap₂ (λ n used. ltb k n && has_space g.row.LEAD used c.args.size m) many (ap length bytes);
    }

pub invariant_of-result-clause-limit : goal.invariant_of-result-clause-limit
invariant_of-result-clause-limit g c = λ k d l. (c.in_ok-indexes.ensures.empty k d l).1
