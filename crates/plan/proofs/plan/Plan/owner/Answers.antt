use Rattle.std.proofs.Common.{◌-◌, arith, rules}
use Rattle.std.proofs.lemmas.Grind.{common_steps}
use Rattle.std.proofs.lemmas.Option.{gets}
use Rattle.std.proofs.lemmas.Bool.Decides.{nat_tests}
use Rattle.plan.specs.Members.{first_of}
use Rattle.plan.proofs.Layouts.{owned_places}
use Rattle.plan.proofs.Places.{address_at, address_none, owner}
use Rattle.plan.proofs.plan.Plan.owner.Goals as goal

pub returns-in_err-get : goal.returns-in_err-get
returns-in_err-get c =
    let places = owned_places _ _ c.self.invariant in
    let none = address_none c.args.self.now c.args.place (grind (arith, common_steps, nat_tests)) in
    record { value = grind (arith, none); inverse = rw none tt; within = grind (arith, common_steps, nat_tests); limit = search rules }

pub returns : goal.returns
returns c =
    let q = c.args.self.now in
    let p = c.args.place in
    let o = c.from-2.result in
    let places = owned_places _ _ c.self.invariant in
    let w = owner q p o (grind (arith, common_steps)) (grind (arith, common_steps, gets)) in
    let found = address_at q o (p - first_of q o) w.code in
    record {
      value = grind (arith, nat_tests, w.after, found);
      inverse = grind (arith, nat_tests, w.after, w.code, found);
      within = grind (arith, common_steps, nat_tests);
      limit = λ _. grind (arith, common_steps, c.self.invariant.room);
    }
