use Rattle.std.proofs.Common.{rules}
use Rattle.std.proofs.lemmas.List.Sorted.{answers_always}
use Rattle.votes.proofs.EntryTurns.{before, rises_is}
use Rattle.votes.proofs.entry.list.are_rising.Goals as goal

pub returns : goal.returns
returns c = rises_is _ _ (c.is_sorted_by.ensures.cases before (answers_always _ _ _ (λ f a r f' k. search rules)))
