-- What is charged for a call.
-- is_talking, talk_seconds: the seconds of talk
-- units, UnitsLaws: the units that these make, and what holds of units
use Rattle.std.specs.Prelude.{◌≡◌, ℕ, ◌+◌, ◌-◌, ◌*◌, ◌/◌, ◌≤◌, Bool, true, false, cond}
use Rattle.signal.specs.declared.code.Code.{Code}
use Rattle.signal.specs.declared.state.State.{State}
use Rattle.signal.specs.declared.state.State.TheVariants.{InTalk}

-- the state of an incoming code whose call is answered
abbrev pub is_talking : State → Bool
is_talking InTalk = true
is_talking other = false

-- the time since the answer: 0 where there was none, or where it lies ahead
abbrev pub talk_seconds : Code → ℕ → ℕ
talk_seconds c time = cond (is_talking c.state) (time - c.answered) 0

-- six seconds a unit, to the nearest
abbrev pub units : ℕ → ℕ
units talk = (talk + 3) / 6

-- what holds of units: none without talk; never more than half a unit off; half a unit goes up;
-- longer talk has no fewer
pub record UnitsLaws : Type 0 where
  pub none_without_talk : units 0 ≡ 0
  pub at_most_half_above : (talk : ℕ) → 6 * units talk ≤ talk + 3
  pub at_most_half_below : (talk : ℕ) → talk ≤ 6 * units talk + 3
  pub half_goes_up : (n : ℕ) → units (6 * n + 3) ≡ n + 1
  pub longer_talk_has_no_fewer : (s t : ℕ) → s ≤ t → units s ≤ units t
