-- The per-call host, which drops a bearer when it is given back.
-- Meaning: its states
-- fresh: the state of a new host
-- used: how many places have a bearer
-- phase_of, put, clear_all, may_seize, seize_one, settle_one, give_one: single calls
-- per_call: what its calls do
use Rattle.std.specs.Prelude.{ℕ, ◌+◌, ◌-◌, min, Bool, cond, not, ◌&&◌, List, ◌==◌, nat_lt}
use Rattle.std.specs.List.{count_by}
use Rattle.bearer.specs.ByPlace.{everywhere}
use Rattle.bearer.specs.Kit.{HostKit, is_none, is_place, raised}
use Rattle.bearer.specs.declared.phase.Phase.{Phase}
use Rattle.bearer.specs.declared.phase.Phase.TheVariants.{Nothing, Forming}

-- the phase of each place, how many bearers are spare, and the size
pub record Meaning : Type 0 where
  pub phases : ℕ → Phase
  pub spare : ℕ
  pub size : ℕ

-- a new host has no bearer at any place, and all of its size spare; a size over 4096 counts as 4096
abbrev pub fresh : ℕ → Meaning
fresh n = record { phases = everywhere Nothing; spare = min n 4096; size = min n 4096 }

-- how many of the phases are not none
abbrev pub used : List Phase → ℕ
used xs = count_by (λ x. not (is_none x)) xs

-- the phase of a place; none outside 1 to 4096
abbrev pub phase_of : Meaning → ℕ → Phase
phase_of s p = cond (is_place p) (s.phases p) Nothing

-- f, with x for the place p
abbrev pub put : {A : Type 0} → (ℕ → A) → ℕ → A → ℕ → A
put f p x q = cond (q == p) x (f q)

-- every bearer dropped
abbrev pub clear_all : Meaning → Meaning
clear_all s = record { phases = everywhere Nothing; spare = s.size; size = s.size }

-- a seizure succeeds at a place from 1 to 4096 whose phase is none, while a bearer is spare
abbrev pub may_seize : Meaning → ℕ → Bool
may_seize s p = is_place p && (is_none (phase_of s p) && nat_lt 0 s.spare)

-- a bearer forms at p, unless the seizure is refused
abbrev pub seize_one : Meaning → ℕ → Meaning
seize_one s p = cond (may_seize s p) (record { phases = put s.phases p Forming; spare = s.spare - 1; size = s.size }) s

-- the bearer at p, if forming, is up
abbrev pub settle_one : Meaning → ℕ → Meaning
settle_one s p = record { phases = put s.phases p (raised (phase_of s p)); spare = s.spare; size = s.size }

-- the bearer at p, if any, is dropped and spare again
abbrev pub give_one : Meaning → ℕ → Meaning
give_one s p = record { phases = put s.phases p Nothing; spare = cond (is_none (phase_of s p)) s.spare (s.spare + 1); size = s.size }

abbrev pub per_call : HostKit Meaning
per_call = record { phase = phase_of; spare = λ s. s.spare; size = λ s. s.size; seizes = may_seize; cleared = clear_all; seized = seize_one; settled = settle_one; given = give_one }
