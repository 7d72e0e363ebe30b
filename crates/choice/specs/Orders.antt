-- The hunt orders that can be chosen.
-- named: which order a name stands for
use Rattle.std.specs.Prelude.{ℕ}
use Rattle.hunt.specs.Orders.{straight, own_half_first}
use Rattle.hunt.specs.declared.side.Side.{Side}
use Rattle.choice.specs.declared.order.Order.{Order}
use Rattle.choice.specs.declared.order.Order.TheVariants.{Straight, OwnHalfFirst}

-- each name stands for the order of that name
abbrev pub named : Order → ℕ → Side → ℕ → ℕ
named Straight = straight
named OwnHalfFirst = own_half_first
