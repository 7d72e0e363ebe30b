-- The state that each host stands for.
-- meaning: of a per-call host
-- keeping: of a re-use host
use Rattle.std.specs.Prelude.{false}
use Rattle.bearer.specs.ByPlace.{at_place}
use Rattle.bearer.specs.PerCall.{Meaning}
use Rattle.bearer.specs.ReUse.{Keeping}
use Rattle.bearer.specs.declared.percall.PerCall.{PerCall}
use Rattle.bearer.specs.declared.phase.Phase.TheVariants.{Nothing}
use Rattle.bearer.specs.declared.reuse.ReUse.{ReUse}

-- the phase of each place, how many bearers are spare, and the size
abbrev pub meaning : PerCall → Meaning
meaning h = record { phases = at_place h.phases.entries Nothing; spare = h.spare; size = h.size }

-- the state of its bearers, and for each place whether one is kept
abbrev pub keeping : ReUse → Keeping
keeping h = record { bearers = meaning h.bearers; kept = at_place h.kept.entries false }
