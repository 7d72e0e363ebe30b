-- What it is to be a bearer host (HostLaws): each field is one sentence of the meaning, and there is no other law.
-- (That questions alter nothing needs none: they only borrow the host.)
use Rattle.std.specs.Prelude.{◌≡◌, ℕ, ◌+◌, ◌≤◌, true, false, ◌&&◌, ◌≢◌, nat_lt}
use Rattle.bearer.specs.Kit.{HostKit, is_none, is_place, raised}
use Rattle.bearer.specs.declared.phase.Phase.TheVariants.{Nothing, Forming}

pub record HostLaws {S : Type 0} (k : HostKit S) : Type 0 where
  -- clear
  pub clear_makes_every_phase_none : (s : S) (p : ℕ) → k.phase (k.cleared s) p ≡ Nothing
  pub clear_makes_spare_the_size : (s : S) → k.spare (k.cleared s) ≡ k.size s
  -- seize: when it succeeds, what it alters, and that a refused one alters nothing
  pub seize_succeeds_exactly_if_none_and_spare : (s : S) (p : ℕ) → k.seizes s p ≡ (is_place p && (is_none (k.phase s p) && nat_lt 0 (k.spare s)))
  pub seize_makes_the_phase_forming : (s : S) (p : ℕ) → k.seizes s p ≡ true → k.phase (k.seized s p) p ≡ Forming
  pub seize_takes_one_spare : (s : S) (p : ℕ) → k.seizes s p ≡ true → k.spare (k.seized s p) + 1 ≡ k.spare s
  pub refused_seize_alters_nothing : (s : S) (p : ℕ) → k.seizes s p ≡ false → k.seized s p ≡ s
  -- settle
  pub settle_turns_forming_into_up : (s : S) (p : ℕ) → k.phase (k.settled s p) p ≡ raised (k.phase s p)
  pub settle_keeps_spare : (s : S) (p : ℕ) → k.spare (k.settled s p) ≡ k.spare s
  -- give
  pub give_makes_the_phase_none : (s : S) (p : ℕ) → k.phase (k.given s p) p ≡ Nothing
  pub give_of_a_bearer_frees_at_least_one : (s : S) (p : ℕ) → is_none (k.phase s p) ≡ false → k.spare s + 1 ≤ k.spare (k.given s p)
  pub give_of_none_keeps_spare : (s : S) (p : ℕ) → is_none (k.phase s p) ≡ true → k.spare (k.given s p) ≡ k.spare s
  -- size never alters
  pub clear_keeps_size : (s : S) → k.size (k.cleared s) ≡ k.size s
  pub seize_keeps_size : (s : S) (p : ℕ) → k.size (k.seized s p) ≡ k.size s
  pub settle_keeps_size : (s : S) (p : ℕ) → k.size (k.settled s p) ≡ k.size s
  pub give_keeps_size : (s : S) (p : ℕ) → k.size (k.given s p) ≡ k.size s
  -- only clear alters other places' phases
  pub seize_keeps_other_phases : (s : S) (p q : ℕ) → q ≢ p → k.phase (k.seized s p) q ≡ k.phase s q
  pub settle_keeps_other_phases : (s : S) (p q : ℕ) → q ≢ p → k.phase (k.settled s p) q ≡ k.phase s q
  pub give_keeps_other_phases : (s : S) (p q : ℕ) → q ≢ p → k.phase (k.given s p) q ≡ k.phase s q
  -- a place outside 1 to 4096
  pub outside_is_none : (s : S) (p : ℕ) → is_place p ≡ false → k.phase s p ≡ Nothing
  pub outside_is_never_seized : (s : S) (p : ℕ) → is_place p ≡ false → k.seizes s p ≡ false
