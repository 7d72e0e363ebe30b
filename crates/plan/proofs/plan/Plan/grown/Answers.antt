use Rattle.plan.proofs.Growing.{kept_more, room_for}
use Rattle.plan.proofs.plan.Plan.grown.Goals as goal

pub own-requires : goal.own-requires
own-requires c = room_for _ _ c.args.codes c.self.invariant (rw c.self.view_is c.requires.room)

pub invariant_of-self : goal.invariant_of-self
invariant_of-self c =
    rw (c.push.ensures.items, c.own.ensures, c.len-number.ensures.value, c.push.ensures.len, c.len.ensures.value) (kept_more _ _ c.args.codes c.self.invariant (rw c.self.view_is c.requires.few) (rw c.self.view_is c.requires.room) c.requires.some c.requires.small)
