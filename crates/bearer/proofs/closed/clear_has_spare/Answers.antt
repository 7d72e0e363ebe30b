use Rattle.bearer.proofs.Refusing.{refusing_has_size_zero}
use Rattle.bearer.proofs.closed.clear_has_spare.Goals as goal

pub returns-clause-corollary : goal.returns-clause-corollary
returns-clause-corollary g c = refusing_has_size_zero g.H.BearerHost.kit g.met.H.BearerHost.lawful
