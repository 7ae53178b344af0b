use Rattle.std.proofs.Common.{◌<◌, length, vec_items, ap, ◌∙◌, arith}
use Rattle.table.specs.Insertions.{insert_answer}
use Rattle.table.specs.Orders.{by_bytes}
use Rattle.table.proofs.Insertion.{not_refused}
use Rattle.replica.specs.Models.{Book}
use Rattle.table.specs.KeyOrders.{names}
use Rattle.replica.proofs.book.enter.Goals as goal

pub returns-in-Err : goal.returns-in-Err
returns-in-Err c =
    let rs = vec_items c.args.book.now in
    let room : c.args.known < length rs = omega (arith, c.requires.0, c.args.book.now.ok.0) in
    absurd (not_refused by_bytes names rs c.args.known c.args.name room c.requires.1.0 c.requires.1.1 _
    (c.in-Err.ensures.answer
    ∙ ap (λ (l : Book). insert_answer by_bytes l c.args.known c.args.name) c.deref_mut.ensures.value))
