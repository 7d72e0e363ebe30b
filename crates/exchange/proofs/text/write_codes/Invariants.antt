use Rattle.std.specs.Fmt.{IsPlainFormatter, HasWritten}
use Rattle.choice.specs.Orders.{named}
use Rattle.exchange.specs.Texts.{codes_text}
use Rattle.exchange.proofs.text.write_codes.Given as goal

-- the codes of the positions so far were written
abbrev pub invariant-loop-position : goal.invariant-loop-position
invariant-loop-position g l = IsPlainFormatter l.initial.f → HasWritten g.W.Write.write_str_gives l.initial.f (codes_text (named l.order l.codes.size l.codes.side) 0 l.position) l.f
