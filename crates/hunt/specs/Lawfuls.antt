-- The two orders are lawful.
use Rattle.std.specs.Prelude.{◌-◌, ◌/◌, ◌%◌, ◌<◌, cond, ◌==◌, refl}
use Rattle.std.proofs.Common.{arith}
use Rattle.std.proofs.lemmas.Bool.Decides.{nat_tests}
use Rattle.hunt.specs.declared.side.Side.TheVariants.{Even, Odd}
use Rattle.hunt.specs.Orders.{Lawful, Stands, straight, own_half_first}

pub straight_lawful : Lawful straight
straight_lawful = record {
  below = λ n s p h. elim s as (λ v. straight n v p < n) [ Even ↦ h | Odd ↦ omega arith ];
  once = λ n s code h. elim s as (λ v. Stands (straight n v) n code) [
    | Even ↦ record { position = code; within = h; there = refl; only = λ p l e. e }
    | Odd ↦ record { position = n - 1 - code; within = omega arith; there = omega arith; only = λ p l e. omega arith }
  ];
}

pub own_half_first_lawful : Lawful own_half_first
own_half_first_lawful = record {
  below = λ n s p h. elim s as (λ v. own_half_first n v p < n) [ Even ↦ grind (arith, nat_tests) | Odd ↦ grind (arith, nat_tests) ];
  once = λ n s code h. elim s as (λ v. Stands (own_half_first n v) n code) [
    | Even ↦ record {
      position = cond (code % 2 == 0) (code / 2) (n - 1 - code / 2);
      within = grind (arith, nat_tests);
      there = grind (arith, nat_tests);
      only = λ p l e. grind (arith, nat_tests);
    }
    | Odd ↦ record {
      position = cond (code % 2 == 1) (code / 2) (n - 1 - code / 2);
      within = grind (arith, nat_tests);
      there = grind (arith, nat_tests);
      only = λ p l e. grind (arith, nat_tests);
    }
  ];
}
