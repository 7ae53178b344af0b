use Rattle.std.proofs.Common.{rules}
use Rattle.text.proofs.DigitTurns.{sofar_more}
use Rattle.text.proofs.digits.decode.Goals as goal

pub loop-rest-preserved : goal.loop-rest-preserved
loop-rest-preserved c =
    sofar_more c.args.text.now _ _ c.loop-rest.rest.now _ _ c.loop-rest.invariant (search rules) c.in-Some.ensures
    c.in-Some-digit_value.ensures (search rules)
