use Rattle.std.proofs.Common.{rules}
use Rattle.std.proofs.Math.Seq.{take-set-lt}
use Rattle.node.specs.Places.{put}
use Rattle.exchange.proofs.exchange.Exchange.poke.Goals as goal

pub returns : goal.returns
unfolding put
returns c = search (rules, take-set-lt)
