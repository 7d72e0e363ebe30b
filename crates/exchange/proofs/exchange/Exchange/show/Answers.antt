use Rattle.std.proofs.Common.{get_or-take, rules}
use Rattle.node.specs.Places.{at}
use Rattle.exchange.proofs.exchange.Exchange.show.Goals as goal

pub returns : goal.returns
unfolding at
returns c = search (rules, get_or-take)
