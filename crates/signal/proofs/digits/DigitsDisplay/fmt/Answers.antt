use Rattle.std.proofs.Common.{rules, true, refl}
use Rattle.std.proofs.Output.{has_written_append, has_written_of_eq}
use Rattle.std.proofs.lemmas.List.{map_more}
use Rattle.std.proofs.lemmas.Str.{encode_ascii}
use Rattle.signal.specs.Words.{digit_char}
use Rattle.signal.proofs.digits.DigitsDisplay.fmt.Goals as goal

pub loop-digit-preserved : goal.loop-digit-preserved
loop-digit-preserved g c =
    let ascii = encode_ascii _ c.digit_char.ensures.ascii in
    let more = map_more digit_char c.called-digit-items.result.now c.loop-digit.digit-index 0 (search rules) in
    λ plain.
    let before = c.loop-digit.invariant plain in
    let one = c.in_ok-write_char.ensures.writes before.plain (refl {a = true}) in
    has_written_of_eq _ _ _ _ _ (search (rules, ascii, more)) (has_written_append _ _ _ _ _ _ before one)
