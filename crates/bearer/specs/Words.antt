-- How the vocabulary of a bearer is written, in bytes.
-- phase_text: the phase of a bearer
use Rattle.std.specs.Prelude.{ℕ, List, codes}
use Rattle.bearer.specs.declared.phase.Phase.{Phase}
use Rattle.bearer.specs.declared.phase.Phase.TheVariants.{Nothing, Forming, Up}

-- the phase of a bearer
abbrev pub phase_text : Phase → List ℕ
phase_text Nothing = codes "none"
phase_text Forming = codes "forming"
phase_text Up = codes "up"
