-- The host that was chosen is lawful, since both hosts are.
use Rattle.std.proofs.Common.{ap}
use Rattle.bearer.specs.Kit.{HostKit}
use Rattle.bearer.specs.Laws.{HostLaws}
use Rattle.choice.specs.Hosts.{Bearing, OfPerCall, OfReUse, chosen}

-- what holds of every state of each host, holds of every state of the one that was chosen
both : {S T : Type 0} (P : Bearing S T → Type 0) → ((s : S) → P (OfPerCall s)) → ((s : T) → P (OfReUse s)) → (s : Bearing S T) → P s
both P f g (OfPerCall s) = f s
both P f g (OfReUse s) = g s

pub chosen_lawful : {S T : Type 0} {k : HostKit S} {l : HostKit T} → HostLaws k → HostLaws l → HostLaws (chosen k l)
chosen_lawful a b = record {
  clear_makes_every_phase_none = both _ a.clear_makes_every_phase_none b.clear_makes_every_phase_none;
  clear_makes_spare_the_size = both _ a.clear_makes_spare_the_size b.clear_makes_spare_the_size;
  seize_succeeds_exactly_if_none_and_spare = both _ a.seize_succeeds_exactly_if_none_and_spare b.seize_succeeds_exactly_if_none_and_spare;
  seize_makes_the_phase_forming = both _ a.seize_makes_the_phase_forming b.seize_makes_the_phase_forming;
  seize_takes_one_spare = both _ a.seize_takes_one_spare b.seize_takes_one_spare;
  refused_seize_alters_nothing = both _ (λ s p h. ap OfPerCall (a.refused_seize_alters_nothing s p h)) (λ s p h. ap OfReUse (b.refused_seize_alters_nothing s p h));
  settle_turns_forming_into_up = both _ a.settle_turns_forming_into_up b.settle_turns_forming_into_up;
  settle_keeps_spare = both _ a.settle_keeps_spare b.settle_keeps_spare;
  give_makes_the_phase_none = both _ a.give_makes_the_phase_none b.give_makes_the_phase_none;
  give_of_a_bearer_frees_at_least_one = both _ a.give_of_a_bearer_frees_at_least_one b.give_of_a_bearer_frees_at_least_one;
  give_of_none_keeps_spare = both _ a.give_of_none_keeps_spare b.give_of_none_keeps_spare;
  clear_keeps_size = both _ a.clear_keeps_size b.clear_keeps_size;
  seize_keeps_size = both _ a.seize_keeps_size b.seize_keeps_size;
  settle_keeps_size = both _ a.settle_keeps_size b.settle_keeps_size;
  give_keeps_size = both _ a.give_keeps_size b.give_keeps_size;
  seize_keeps_other_phases = both _ a.seize_keeps_other_phases b.seize_keeps_other_phases;
  settle_keeps_other_phases = both _ a.settle_keeps_other_phases b.settle_keeps_other_phases;
  give_keeps_other_phases = both _ a.give_keeps_other_phases b.give_keeps_other_phases;
  outside_is_none = both _ a.outside_is_none b.outside_is_none;
  outside_is_never_seized = both _ a.outside_is_never_seized b.outside_is_never_seized;
}
