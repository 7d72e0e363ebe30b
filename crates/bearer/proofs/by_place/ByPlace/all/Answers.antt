use Rattle.bearer.proofs.Places.{all_same}
use Rattle.bearer.proofs.by_place.ByPlace.all.Goals as goal

pub returns-clause-anywhere : goal.returns-clause-anywhere
returns-clause-anywhere g c = all_same 4096 c.args.entry
