use Rattle.std.proofs.Common.{drop-set-lt, rules}
use Rattle.std.proofs.Math.Seq.{take-set-lt}
use Rattle.node.specs.Places.{put}
use Rattle.node.specs.Steps.{writing}
use Rattle.node.specs.World.{lift, changing}
use Rattle.node.proofs.node.Node.write.Goals as goal

pub returns-in-Some : goal.returns-in-Some
unfolding lift changing writing put
returns-in-Some g c = search (rules, take-set-lt, drop-set-lt)
