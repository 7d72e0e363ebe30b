-- The phase of every place after each call of a host.
-- Cleared, Seized, Settled, Given: after clear, seize, settle and give, from the state s at the call to t at the return
use Rattle.std.specs.Prelude.{◌≡◌, ℕ, Bool, cond, ◌&&◌, ◌==◌}
use Rattle.bearer.specs.Kit.{HostKit, raised}
use Rattle.bearer.specs.declared.phase.Phase.TheVariants.{Nothing, Forming}

-- no place has a bearer
abbrev pub Cleared : {S : Type 0} → HostKit S → S → Type 0
Cleared k t = (q : ℕ) → k.phase t q ≡ Nothing

-- where the seizure succeeded, the place is forming; no other phase altered
abbrev pub Seized : {S : Type 0} → HostKit S → S → S → ℕ → Bool → Type 0
Seized k s t p succeeded = (q : ℕ) → k.phase t q ≡ cond (succeeded && q == p) Forming (k.phase s q)

-- the place, if it was forming, is up; no other phase altered
abbrev pub Settled : {S : Type 0} → HostKit S → S → S → ℕ → Type 0
Settled k s t p = (q : ℕ) → k.phase t q ≡ cond (q == p) (raised (k.phase s q)) (k.phase s q)

-- the place has no bearer; no other phase altered
abbrev pub Given : {S : Type 0} → HostKit S → S → S → ℕ → Type 0
Given k s t p = (q : ℕ) → k.phase t q ≡ cond (q == p) Nothing (k.phase s q)
