-- What an accepted call is answered. (What a refused one is answered stands in Refusals.)
-- verdict_value: what a verdict names
use Rattle.std.specs.Prelude.{ℕ, Some, None, Option}
use Rattle.signal.specs.declared.verdict.Verdict.{Verdict}
use Rattle.signal.specs.declared.verdict.Verdict.TheVariants.{Taken, TurnedAway, Disregarded, Done, ServedPlace, ServedAssociation, NothingDue}

-- the number of the call taken, the cause of one turned away, the place or association served
abbrev pub verdict_value : Verdict → Option ℕ
verdict_value (Taken call) = Some call
verdict_value (TurnedAway cause) = Some cause
verdict_value Disregarded = None
verdict_value Done = None
verdict_value (ServedPlace place) = Some place
verdict_value (ServedAssociation association) = Some association
verdict_value NothingDue = None
