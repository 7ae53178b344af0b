use Rattle.std.proofs.Common.{rules}
use Rattle.octets.proofs.Begins.{uncons}
use Rattle.bodies.proofs.OneOperation.{no_key, no_value}
use Rattle.bodies.proofs.operation.read_operation.Goals as goal

pub returns-in_err-key : goal.returns-in_err-key
returns-in_err-key c =
    let e = uncons c.args.text.now (search rules) in
    rw c.from_residual.ensures (no_key _ _ _ e c.in_err-key.ensures)

pub returns-then-code-eq1 : goal.returns-then-code-eq1
returns-then-code-eq1 c =
    let e = uncons c.args.text.now (search rules) in
    let k = c.in_ok-key.ensures in
    (k.0, cc)

pub returns-in_err-value : goal.returns-in_err-value
returns-in_err-value c =
    let e = uncons c.args.text.now (search rules) in
    let k = c.in_ok-key.ensures in
    rw c.from_residual-in_err-value.ensures (no_value _ _ _ e c.in_ok-key.key _ c.if-code-eq1.false k.1 c.in_err-value.ensures)

pub returns-in-2 : goal.returns-in-2
returns-in-2 c =
    let e = uncons c.args.text.now (search rules) in
    let k = c.in_ok-key.ensures in
    let v = c.in_ok-value.ensures in
    ((k.0, v.0), cc)

pub returns-in-3 : goal.returns-in-3
returns-in-3 c =
    let e = uncons c.args.text.now (search rules) in
    let k = c.in_ok-key.ensures in
    let v = c.in_ok-value.ensures in
    ((k.0, v.0), cc)
