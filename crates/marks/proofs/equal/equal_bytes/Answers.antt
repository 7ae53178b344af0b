use Rattle.std.proofs.Common.{◌≡◌, refl, rules}
use Rattle.std.proofs.lemmas.Fn.{fold_over, fronts}
use Rattle.std.proofs.lemmas.Iterator.{YieldsList-from_slice, YieldsList-from_zip, zips}
use Rattle.marks.proofs.Differences.{one_more, tells_all, with_differences}
use Rattle.marks.proofs.equal.equal_bytes.Goals as goal

pub returns-then-left-right : goal.returns-then-left-right
returns-then-left-right c =
    let pairs = YieldsList-from_zip {s = c.zip.result} (YieldsList-from_slice c.args.left.now (search rules)) (YieldsList-from_slice c.args.right.now (search rules)) in
    let d =
    fold_over (zips fronts fronts) _ _ (λ ps d. d ≡ with_differences 0 ps) _
    (λ ps a p b f' j k. (one_more ps a (p.0.now, p.1.now) b j (search rules), search rules)) c.zip.result _ _ _
    pairs.runs refl c.fold.ensures.ran in
    tells_all _ _ _ c.if-left-right.true d
