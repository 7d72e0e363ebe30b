use Rattle.std.proofs.Common.{[], ◌∷◌, ◌++◌, string_bytes}
use Rattle.script.specs.Tallies.{standing}
use Rattle.script.proofs.Lines.{knows_more, stands_more, writes_more}
use Rattle.script.proofs.runner.run.Goals as goal

pub loop-line-preserved : goal.loop-line-preserved
loop-line-preserved c =
    let before = c.loop-line.invariant in
    let line = c.in_ok-line.field-0 in
    let did = c.in_ok-line.ensures in
    let stood = standing c.loop-line.runner in
    let text = string_bytes c.loop-line.text in (
      before.0 ++ line ∷ [],
      knows_more c.args.known before.0 line before.1 did.known,
      stands_more before.0 line stood (standing c.line.new.self) before.2 did.stands,
      writes_more before.0 line stood text (string_bytes c.line.new.out) before.2 before.3 did.writes,
    )
