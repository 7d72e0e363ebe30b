use Rattle.std.proofs.Common.{rules}
use Rattle.hunt.specs.First.{marked}
use Rattle.hunt.proofs.Firsts.{found, value, exactly}
use Rattle.hunt.proofs.first.first_open.Goals as goal

pub returns : goal.returns
returns g c =
    let order = g.O.HuntOrder.order c.args.order.now in
    let lawful = g.met.O.HuntOrder.lawful c.args.order.now in
    let n = c.args.codes.size in
    let side = c.args.codes.side in
    let test = marked c.args.marks.now in
    let r = c.first_such.result in
    let f = found (order n side) test n r c.first_such.ensures (λ code k. search rules) (λ q k. search rules) in
    record { value = value (order n side) test n r f; found = f; exactly = exactly order lawful side test n r f }
