-- The record of a code.
-- blank: that of an idle code without a block or a partner
use Rattle.std.specs.Prelude.{false, None}
use Rattle.signal.specs.declared.code.Code.{Code}
use Rattle.signal.specs.declared.state.State.TheVariants.{Idle}
use Rattle.signal.specs.Contents.{no_digits}

-- idle, unblocked, without a partner, and nothing else known of it
abbrev pub blank : Code
blank = record {
  state = Idle;
  partner = 0;
  own = false;
  peer = false;
  call = 0;
  route = 0;
  digits = no_digits;
  answered = 0;
  cause = 0;
  short = None;
  long = None;
}
