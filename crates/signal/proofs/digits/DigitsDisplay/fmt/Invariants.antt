use Rattle.std.proofs.Common.{map, take}
use Rattle.std.specs.Fmt.{HasWritten, IsPlainFormatter}
use Rattle.signal.specs.Words.{digit_char}
use Rattle.signal.proofs.digits.DigitsDisplay.fmt.Given as goal

-- the digits so far were written
abbrev pub invariant-loop-digit : goal.invariant-loop-digit
invariant-loop-digit g l =
    IsPlainFormatter l.initial.f → HasWritten g.W.Write.write_str_gives l.initial.f (map digit_char (take l.digit-index l.digit-items)) l.f
