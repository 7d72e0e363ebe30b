use Rattle.std.proofs.Common.{refl, arith}
use Rattle.std.proofs.lemmas.Bool.Decides.{nat_tests}
use Rattle.std.proofs.Output.{has_written_append, has_written_of_eq}
use Rattle.choice.specs.Orders.{named}
use Rattle.exchange.proofs.Texts.{codes_more}
use Rattle.exchange.proofs.text.write_codes.Goals as goal
use Rattle.exchange.proofs.text.write_codes.Goals.{in-Some+in_ok-write, in_default}

pub loop-position-preserved : goal.loop-position-preserved
loop-position-preserved g c plain =
    let took = g.W.Write.write_str_gives in
    let order = named c.args.order c.args.codes.size c.args.codes.side in
    let before = c.loop-position.invariant plain in
    elim c.match-code_at.branch [
      | in-Some+in_ok-write w ↦
          let one = w.in_ok-write.ensures.writes before.plain refl in
          let more = codes_more order c.loop-position.position w.in-Some.code (grind (arith, nat_tests, w.in-Some.ensures)) in
          rw w.f-is (has_written_of_eq took _ _ _ _ more (has_written_append took _ _ _ _ _ before one))
      | in_default w ↦ grind (arith, nat_tests, w.in_default.ensures)
    ]
