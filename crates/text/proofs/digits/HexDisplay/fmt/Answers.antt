use Rattle.std.proofs.Common.{◌≡◌, ◌+◌, ◌-◌, ◌^◌, false, [], ◌++◌, get_or, take, sym, ◌∙◌, ap, rules}
use Rattle.std.specs.Fmt.{HasWritten, digits, format_spec, padded_integral}
use Rattle.std.specs.List.{flat_map}
use Rattle.std.proofs.Output.{has_written_append, has_written_of_eq}
use Rattle.std.proofs.lemmas.Fmt.{hex_byte}
use Rattle.std.proofs.lemmas.List.{flat_map_more, take_more}
use Rattle.text.specs.Hex.{two_digits}
use Rattle.text.proofs.digits.HexDisplay.fmt.Goals as goal

pub loop-byte-preserved : goal.loop-byte-preserved
loop-byte-preserved g c = λ plain.
    let bs = c.args.self.now.0.now in
    let i = c.loop-byte.byte-index in
    let more : flat_map two_digits (take i bs) ++ two_digits (get_or bs i 0) ≡ flat_map two_digits (take (i + 1) bs) =
    flat_map_more two_digits [] (take i bs) (get_or bs i 0) ∙ ap (flat_map two_digits) (sym (take_more bs i 0 c.loop-byte-test.true)) in
    let this : HasWritten g.W.Write.write_str_gives c.loop-byte.f (padded_integral (format_spec 32 0 4 2 (2 ^ 64 - 1)) false [] (digits 16 false (get_or bs i 0))) c.write.new.self = search rules in
    let byte = hex_byte false (get_or bs i 0) (search rules) in
    has_written_of_eq _ _ _ _ _ more (has_written_append _ _ _ _ _ _ (c.loop-byte.invariant plain) (has_written_of_eq _ _ _ _ _ byte this))
