-- The bearer hosts that can be chosen, as one host.
-- Bearing: its states, over those of the two hosts
-- state_of, bearing: the state of a host, for any two hosts and for the two of this crate
-- ask, step: by cases on the state
-- chosen: what its calls do
-- fresh_host: the state of a new host
-- keeps: whether a bearer is kept
use Rattle.std.specs.Prelude.{Bool, false, ℕ}
use Rattle.bearer.specs.Kit.{HostKit}
use Rattle.bearer.specs.PerCall.{Meaning, fresh}
use Rattle.bearer.specs.ReUse.{Keeping, fresh_keeping}
use Rattle.bearer.specs.States.{meaning, keeping}
use Rattle.bearer.specs.declared.percall.PerCall.{PerCall}
use Rattle.bearer.specs.declared.reuse.ReUse.{ReUse}
use Rattle.choice.specs.declared.host.Host.{Host}
use Rattle.choice.specs.declared.host.Host.TheVariants.{PerCall as PerCall-host, ReUse as ReUse-host}
use Rattle.choice.specs.declared.host.HostKind.{HostKind}
use Rattle.choice.specs.declared.host.HostKind.TheVariants.{PerCall as PerCall-kind, ReUse as ReUse-kind}

-- a state of the per-call host, or one of the re-use host
pub data Bearing (S T : Type 0) : Type 0 where
  OfPerCall : S → Bearing S T
  OfReUse : T → Bearing S T

-- the state of the host that was chosen, where f and g tell the states of the two
abbrev pub state_of : {P R S T : Type 0} → (P → S) → (R → T) → Host P R → Bearing S T
state_of f g (PerCall-host h) = OfPerCall (f h)
state_of f g (ReUse-host h) = OfReUse (g h)

-- the state of the per-call host or of the re-use host
abbrev pub bearing : Host PerCall ReUse → Bearing Meaning Keeping
bearing = state_of meaning keeping

-- what the host that was chosen answers
abbrev pub ask : {S T A : Type 0} → (S → A) → (T → A) → Bearing S T → A
ask f g (OfPerCall s) = f s
ask f g (OfReUse s) = g s

-- the host that was chosen goes on, and stays that host
abbrev pub step : {S T : Type 0} → (S → S) → (T → T) → Bearing S T → Bearing S T
step f g (OfPerCall s) = OfPerCall (f s)
step f g (OfReUse s) = OfReUse (g s)

-- the host that was chosen does what it does alone
abbrev pub chosen : {S T : Type 0} → HostKit S → HostKit T → HostKit (Bearing S T)
chosen k l = record {
  phase = λ s p. ask (λ t. k.phase t p) (λ t. l.phase t p) s;
  spare = ask k.spare l.spare;
  size = ask k.size l.size;
  seizes = λ s p. ask (λ t. k.seizes t p) (λ t. l.seizes t p) s;
  cleared = step k.cleared l.cleared;
  seized = λ s p. step (λ t. k.seized t p) (λ t. l.seized t p) s;
  settled = λ s p. step (λ t. k.settled t p) (λ t. l.settled t p) s;
  given = λ s p. step (λ t. k.given t p) (λ t. l.given t p) s;
}

-- a new host is a new one of its kind
abbrev pub fresh_host : HostKind → ℕ → Bearing Meaning Keeping
fresh_host PerCall-kind n = OfPerCall (fresh n)
fresh_host ReUse-kind n = OfReUse (fresh_keeping n)

-- a per-call host keeps no bearer, and a re-use host those that it has marked
abbrev pub keeps : Bearing Meaning Keeping → ℕ → Bool
keeps (OfPerCall s) p = false
keeps (OfReUse s) p = s.kept p
