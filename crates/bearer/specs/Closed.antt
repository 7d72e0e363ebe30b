-- Hosts that refuse every seizure.
-- RefusesAlways: no place can be seized in any state
-- RefusingHasSizeZero: such a host has size 0
use Rattle.std.specs.Prelude.{◌≡◌, ℕ, false}
use Rattle.bearer.specs.Kit.{HostKit}

-- whatever the state, no place can be seized
abbrev pub RefusesAlways : {S : Type 0} → HostKit S → Type 0
RefusesAlways {S} k = (s : S) (p : ℕ) → k.seizes s p ≡ false

-- a host that refuses every seizure has no bearers
abbrev pub RefusingHasSizeZero : {S : Type 0} → HostKit S → Type 0
RefusingHasSizeZero {S} k = RefusesAlways k → (s : S) → k.size s ≡ 0
