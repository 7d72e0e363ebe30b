use Rattle.std.proofs.Common.{◌-◌, arith}
use Rattle.std.proofs.lemmas.Grind.{common_steps}
use Rattle.std.proofs.lemmas.Option.{gets}
use Rattle.std.proofs.lemmas.Bool.Decides.{nat_tests}
use Rattle.plan.proofs.Layouts.{laid_get, sized_at, sum_within, length_owners}
use Rattle.plan.proofs.plan.Plan.association.Goals as goal

pub returns-clause-value : goal.returns-clause-value
returns-clause-value c = grind (arith, common_steps, gets, nat_tests, laid_get 1 c.args.self.now (c.args.number - 1))

pub returns-clause-within : goal.returns-clause-within
returns-clause-within c = grind (arith, common_steps, gets, nat_tests, laid_get 1 c.args.self.now (c.args.number - 1), sum_within c.args.self.now (c.args.number - 1), length_owners 1 c.args.self.now)

pub returns-clause-fair : goal.returns-clause-fair
returns-clause-fair c = grind (arith, common_steps, gets, nat_tests, laid_get 1 c.args.self.now (c.args.number - 1), sized_at c.args.self.now (c.args.number - 1))
