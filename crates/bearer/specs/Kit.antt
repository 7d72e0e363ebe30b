-- What a bearer host does: pure functions on its states.
-- is_none, is_up, raised: of a phase
-- is_place: the places that can have a bearer
-- HostKit: the functions of a host
use Rattle.std.specs.Prelude.{ℕ, Bool, true, false, ◌&&◌, nat_le, nat_lt}
use Rattle.bearer.specs.declared.phase.Phase.{Phase}
use Rattle.bearer.specs.declared.phase.Phase.TheVariants.{Nothing, Forming, Up}

-- there is no bearer
abbrev pub is_none : Phase → Bool
is_none Nothing = true
is_none Forming = false
is_none Up = false

-- the bearer was reported up
abbrev pub is_up : Phase → Bool
is_up Nothing = false
is_up Forming = false
is_up Up = true

-- the phase once a bearer is reported up: forming turns into up, and no other phase alters
abbrev pub raised : Phase → Phase
raised Nothing = Nothing
raised Forming = Up
raised Up = Up

-- places run from 1 to 4096
abbrev pub is_place : ℕ → Bool
is_place p = nat_lt 0 p && nat_le p 4096

-- a host, over its states S: the phase of each place, how many bearers are spare, its size,
-- whether a seizure succeeds, and the state after each of its calls
pub record HostKit (S : Type 0) : Type 0 where
  pub phase : S → ℕ → Phase
  pub spare : S → ℕ
  pub size : S → ℕ
  pub seizes : S → ℕ → Bool
  pub cleared : S → S
  pub seized : S → ℕ → S
  pub settled : S → ℕ → S
  pub given : S → ℕ → S
