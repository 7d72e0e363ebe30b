-- Lists with an entry for each place.
use Rattle.std.proofs.Common.{◌≡◌, ℕ, zero, suc, ◌+◌, ◌-◌, cond, not, List, length, get_or, replicate, refl, arith}
use Rattle.std.proofs.Math.Path.{fun_ext}
use Rattle.std.proofs.lemmas.Bool.Decides.{nat_tests}
use Rattle.std.proofs.lemmas.List.Sums.{sum_by-set}
use Rattle.bearer.specs.ByPlace.{at_place, everywhere, with_entry}
use Rattle.bearer.specs.Kit.{is_none, is_place}
use Rattle.bearer.specs.PerCall.{used}
use Rattle.bearer.specs.declared.phase.Phase.{Phase}
use Rattle.bearer.specs.declared.phase.Phase.TheVariants.{Nothing}

-- a list that is x all through, read with x past its end
pub same_anywhere : {A : Type 0} (n i : ℕ) (x : A) → get_or (replicate n x) i x ≡ x
same_anywhere zero i x = refl
same_anywhere (suc n) zero x = refl
same_anywhere (suc n) (suc i) x = same_anywhere n i x

-- such a list, however long, has x at each place, where x is also what a place outside has
pub all_same : {A : Type 0} (n : ℕ) (x : A) → at_place (replicate n x) x ≡ everywhere x
all_same n x = fun_ext (λ p. let e = same_anywhere n (p - 1) x in grind (arith, nat_tests))

abbrev pub weight : Phase → ℕ
weight x = cond (not (is_none x)) 1 0

-- another phase for one place
pub used_with : (xs : List Phase) (p : ℕ) (x : Phase) → length xs ≡ 4096 → used (with_entry xs p x) + weight (at_place xs Nothing p) ≡ used xs + cond (is_place p) (weight x) 0
used_with xs p x whole = let e = sum_by-set weight xs (p - 1) x Nothing in search (arith, nat_tests)
