use Rattle.std.proofs.Common.{map, vec_items, sym, refl, ap, ◌∙◌, rules, tests, arith}
use Rattle.std.specs.List.{position}
use Rattle.std.specs.Option.{option_map}
use Rattle.std.proofs.lemmas.Iterator.{YieldsList-from_slice}
use Rattle.std.proofs.lemmas.Iterator.Search.{position_from_yields_List}
use Rattle.replica.specs.Models.{is_named}
use Rattle.replica.specs.Transactions.{transaction}
use Rattle.replica.specs.declared.state.PendingPlace.{PendingPlace}
use Rattle.replica.proofs.Searches.{kept, released, same}
use Rattle.replica.proofs.pending.release.Goals as goal

pub returns-in_err-at : goal.returns-in_err-at
returns-in_err-at c =
    let named = is_named c.args.name.now in
    let place = position_from_yields_List (λ (held : PendingPlace). named (transaction held)) _ _ c.position.result
    c.position.ensures.ran (YieldsList-from_slice _ c.iter.ensures.rest) (λ x b q k. search (rules, tests, same)) in
    let all = kept named transaction (vec_items c.args.places.now)
    (ap (position (λ (held : PendingPlace). named (transaction held))) (sym c.deref.ensures.value) ∙ sym place ∙ c.in_err-at.was) in
    record {
      value = ap (option_map transaction) c.from_residual.ensures ∙ all.0;
      items = all.1;
      len = omega arith;
      capacity = refl;
    }

pub returns : goal.returns
returns c =
    let named = is_named c.args.name.now in
    let place = position_from_yields_List (λ (held : PendingPlace). named (transaction held)) _ _ c.position.result
    c.position.ensures.ran (YieldsList-from_slice _ c.iter.ensures.rest) (λ x b q k. search (rules, tests, same)) in
    let rest = released named transaction (vec_items c.args.places.now) c.in_ok-at.at c.remove.result
    (ap (position (λ (held : PendingPlace). named (transaction held))) (sym c.deref.ensures.value) ∙ sym place ∙ c.in_ok-at.was)
    c.remove.ensures.value in
    record {
      value = rest.0;
      items = ap (map transaction) c.remove.ensures.items ∙ rest.1;
      len = omega (arith, c.remove.ensures.len);
      capacity = c.remove.ensures.capacity;
    }
