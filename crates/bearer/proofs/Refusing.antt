-- A host that refuses every seizure has no bearers.
use Rattle.std.proofs.Common.{◌≡◌, false, ltb, sym, ◌∙◌, arith}
use Rattle.std.proofs.lemmas.Bool.Decides.{nat_tests}
use Rattle.bearer.specs.Kit.{HostKit}
use Rattle.bearer.specs.Laws.{HostLaws}
use Rattle.bearer.specs.Closed.{RefusesAlways}

module _ {S : Type 0} (k : HostKit S) (laws : HostLaws k) where
  -- once cleared, the first place can be seized exactly if the size is not 0
  first_place : (s : S) → k.seizes (k.cleared s) 1 ≡ ltb 0 (k.size s)
  first_place s =
      laws.seize_succeeds_exactly_if_none_and_spare (k.cleared s) 1 ∙ rw (laws.clear_makes_every_phase_none s 1, laws.clear_makes_spare_the_size s)

  pub refusing_has_size_zero : RefusesAlways k → (s : S) → k.size s ≡ 0
  refusing_has_size_zero refuses s =
      let e : ltb 0 (k.size s) ≡ false = sym (first_place s) ∙ refuses (k.cleared s) 1 in
      grind (arith, nat_tests)
