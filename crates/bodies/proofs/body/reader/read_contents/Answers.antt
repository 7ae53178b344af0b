use Rattle.std.proofs.Common.{sym, ap, ◌∙◌, arith, rules}
use Rattle.bodies.specs.Operations.{writes_apart}
use Rattle.octets.proofs.Begins.{uncons}
use Rattle.bodies.proofs.BodyParts.{no_nonce, no_operations, whole, two_writes}
use Rattle.bodies.proofs.body.reader.read_contents.Goals as goal

pub returns-in_err-nonce : goal.returns-in_err-nonce
returns-in_err-nonce c = rw c.from_residual.ensures (no_nonce _ c.in_err-nonce.ensures)

pub returns-in_err-operations : goal.returns-in_err-operations
returns-in_err-operations c =
    let n = c.in_ok-nonce.ensures in
    let e = uncons c.in_ok-nonce.rest.now (search rules) in
    rw c.from_residual-in_err-operations.ensures (no_operations _ c.in_ok-nonce.nonce n.0 _ _ _ n.1 e c.in_err-operations.ensures)

pub returns-then-writes_apart : goal.returns-then-writes_apart
returns-then-writes_apart c =
    let n = c.in_ok-nonce.ensures in
    let o = c.in_ok-operations.ensures in
    let e = uncons c.in_ok-nonce.rest.now (search rules) in (
      record {
        nonce_fits = n.0;
        some = omega (arith, o.0);
        few = omega (arith, o.0);
        fit = o.1;
        apart = sym (c.if-writes_apart.ensures ∙ ap writes_apart c.as_slice.ensures.items);
      },
      whole _ c.in_ok-nonce.nonce n.0 _ _ _ n.1 e _ o.0 o.1 o.2,
    )

pub returns-else-writes_apart : goal.returns-else-writes_apart
returns-else-writes_apart c =
    let n = c.in_ok-nonce.ensures in
    let o = c.in_ok-operations.ensures in
    let e = uncons c.in_ok-nonce.rest.now (search rules) in
    two_writes _ c.in_ok-nonce.nonce n.0 _ _ _ n.1 e _ o.0 o.1 o.2 (c.if-writes_apart.ensures ∙ ap writes_apart c.as_slice.ensures.items)
