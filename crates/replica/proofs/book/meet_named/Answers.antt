use Rattle.std.proofs.Common.{◌-◌, ◌<◌, ◌≤◌, length, take, Some, vec_items, sym, refl, ap, ◌∙◌, subst, arith}
use native.Mathlib.Nat.{sub-zero}
use Rattle.table.specs.Orders.{by_bytes}
use Rattle.table.specs.Rows.{position}
use Rattle.replica.specs.Models.{Book}
use Rattle.replica.proofs.Books.{found_met, missed_met}
use Rattle.replica.proofs.book.meet_named.Goals as goal

pub returns-in-Ok : goal.returns-in-Ok
returns-in-Ok c =
    let rs = vec_items c.args.book.now in
    let n = c.args.known in
    let x = c.args.name.now in
    let few : n ≤ length rs = omega (arith, c.requires.0, c.args.book.now.ok.0) in
    let m = found_met rs n x c.args.delivered few c.requires.1 c.in-Ok.at c.index_mut.result.now c.meet.new.state
    (c.in-Ok.ensures.place ∙ ap (λ (l : Book). position by_bytes (take (n - 0) l) x) c.deref.ensures.value
    ∙ ap (λ k. position by_bytes (take k rs) x) (sub-zero n))
    (subst (λ k. c.in-Ok.at < length (take k rs)) (sub-zero n)
    (subst (λ (l : Book). c.in-Ok.at < length (take (n - 0) l)) c.deref.ensures.value c.in-Ok.ensures.bound))
    c.index_mut.ensures.value c.meet.ensures.after in
    record {
      state = ap Some (c.meet.ensures.answer ∙ sym c.meet.ensures.after) ∙ m.state;
      after = m.after_is;
      rises = m.rises;
      len = refl;
    }

pub returns-in-Err : goal.returns-in-Err
returns-in-Err c =
    let rs = vec_items c.args.book.now in
    let n = c.args.known in
    let x = c.args.name.now in
    let few : n ≤ length rs = omega (arith, c.requires.0, c.args.book.now.ok.0) in
    let m = missed_met rs n x c.args.delivered few c.requires.1 c.in-Err.field-0
    (c.in-Err.ensures.place ∙ ap (λ (l : Book). position by_bytes (take (n - 0) l) x) c.deref.ensures.value
    ∙ ap (λ k. position by_bytes (take k rs) x) (sub-zero n)) in
    record { state = m.state; after = m.after_is; rises = m.rises; len = refl }
