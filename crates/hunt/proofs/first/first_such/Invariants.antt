use Rattle.std.proofs.Common.{ℕ, ◌<◌, false}
use Rattle.hunt.proofs.first.first_such.Given as goal

-- no code at an earlier position is open
abbrev pub invariant-loop-position : goal.invariant-loop-position
invariant-loop-position g l = (q : ℕ) → q < l.position → goal.F-post g l.is_open (g.O.HuntOrder.order l.order l.codes.size l.codes.side q) false
