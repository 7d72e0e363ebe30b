-- The re-use host: a per-call host that holds on to a bearer which is given back while it is up.
-- Keeping: its states
-- fresh_keeping: the state of a new host
-- re_use: what its calls do
use Rattle.std.specs.Prelude.{ℕ, Bool, true, false, cond}
use Rattle.bearer.specs.ByPlace.{everywhere}
use Rattle.bearer.specs.Kit.{HostKit, is_up}
use Rattle.bearer.specs.PerCall.{Meaning, per_call, fresh, put}

-- the bearers, and for each place whether one is kept
pub record Keeping : Type 0 where
  pub bearers : Meaning
  pub kept : ℕ → Bool

-- a new host keeps no bearer
abbrev pub fresh_keeping : ℕ → Keeping
fresh_keeping n = record { bearers = fresh n; kept = everywhere false }

-- clear keeps none, a seizure that succeeds uses up the one of its place, and a give keeps a bearer that was up
abbrev pub re_use : HostKit Keeping
re_use = record {
  phase = λ s p. per_call.phase s.bearers p;
  spare = λ s. per_call.spare s.bearers;
  size = λ s. per_call.size s.bearers;
  seizes = λ s p. per_call.seizes s.bearers p;
  cleared = λ s. record { bearers = per_call.cleared s.bearers; kept = everywhere false };
  seized = λ s p. record { bearers = per_call.seized s.bearers p; kept = cond (per_call.seizes s.bearers p) (put s.kept p false) s.kept };
  settled = λ s p. record { bearers = per_call.settled s.bearers p; kept = s.kept };
  given = λ s p. record { bearers = per_call.given s.bearers p; kept = cond (is_up (per_call.phase s.bearers p)) (put s.kept p true) s.kept };
}
