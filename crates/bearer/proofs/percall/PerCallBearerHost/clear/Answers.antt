use Rattle.std.proofs.Common.{ap, arith}
use Rattle.std.proofs.lemmas.Bool.Decides.{nat_tests}
use Rattle.bearer.proofs.percall.PerCallBearerHost.clear.Goals as goal

pub returns-clause-phases : goal.returns-clause-phases
returns-clause-phases c = λ q. let e = ap (λ f. f q) c.all-self.ensures.anywhere in grind (arith, nat_tests)
