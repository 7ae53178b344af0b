use Rattle.std.proofs.Common.{[], length, sym, ap, ◌∙◌, append-nil, true-eqb, false-eqb}
use Rattle.bodies.specs.Operations.{OperationFits, operation_bytes}
use Rattle.bodies.proofs.OneOperation.{same_operation}
use Rattle.envelope.proofs.Sequences.{all_read, ends, many_read, none_read}
use Rattle.bodies.proofs.body.reader.read_operations.Goals as goal

pub returns-in_err-operations : goal.returns-in_err-operations
returns-in_err-operations c =
    rw c.from_residual.ensures
    (λ os l f e. none_read OperationFits operation_bytes _ _ same_operation _ _ c.in_err-operations.ensures (λ b o p. p) os [] l f (e ∙ sym (append-nil _)))

pub returns-then-is_empty : goal.returns-then-is_empty
returns-then-is_empty c =
    let o = c.in_ok-operations.ensures in
    let h = many_read OperationFits operation_bytes _ _ _ _ _ o.1 (λ b o p. p) in
    (o.0, h.fit, all_read OperationFits operation_bytes _ _ _ _ h (true-eqb _ 0 c.if-is_empty.ensures))

pub returns-else-is_empty : goal.returns-else-is_empty
returns-else-is_empty c =
    λ os l f e.
    let o = c.in_ok-operations.ensures in
    let h = many_read OperationFits operation_bytes _ _ _ _ _ o.1 (λ b o p. p) in
    let none = ends OperationFits operation_bytes same_operation _ _ _ _ h os [] f (e ∙ sym (append-nil _)) (l ∙ sym o.0) in
    false-eqb _ 0 c.if-is_empty.ensures (ap length none)
