-- A blank table.
use Rattle.std.proofs.Common.{◌≡◌, ℕ, min, take, replicate, arith}
use Rattle.std.proofs.lemmas.Grind.{common_steps}
use Rattle.std.proofs.lemmas.List.{take-replicate}

-- the first m records, or as many of them as there are
pub take_blank : {X : Type 0} (b : X) (m n : ℕ) → take m (replicate n b) ≡ replicate (min n m) b
take_blank b m n = grind (arith, common_steps, take-replicate)
