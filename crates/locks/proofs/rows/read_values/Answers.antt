use Rattle.std.proofs.Common.{◌≡◌, true, false, [], ◌∷◌, ◌++◌, length, append-nil, sym, ap, ◌∙◌, arith, rules}
use Rattle.std.proofs.lemmas.List.{length_push}
use Rattle.bodies.specs.declared.operation.Operation.TheVariants.{Read}
use Rattle.lists.specs.Lists.{listed}
use Rattle.locks.proofs.ReadTurns.{reads_more}
use Rattle.locks.proofs.rows.read_values.Goals as goal
use Rattle.locks.proofs.rows.read_values.Goals.{then-reads_here, else-reads_here}

pub loop-operation-preserved : goal.loop-operation-preserved
loop-operation-preserved c =
    let more = reads_more c.args.partition.now.groups c.args.partition.now.group c.args.rows.now c.args.operations.now
    c.loop-operation.operation-index (Read 0) in
    elim c.if-reads_here.branch [
      | then-reads_here w ↦
          let is : listed c.if-reads_here.values ≡ listed c.loop-operation.values ++ (w.unwrap_or.result ∷ []) = cc in (
            omega (arith, c.loop-operation.invariant.0, ap length is ∙ length_push (listed c.loop-operation.values) w.unwrap_or.result),
            let m = more true c.loop-operation-test.true (search rules) in cc,
          )
      | else-reads_here w ↦
          let is : listed c.if-reads_here.values ≡ listed c.loop-operation.values = ap listed w.values-is in
          let m = more false c.loop-operation-test.true (search rules) in
          (omega (arith, c.loop-operation.invariant.0, ap length is), is ∙ c.loop-operation.invariant.1 ∙ sym (append-nil _) ∙ sym m)
    ]
