-- Associations laid out one after another, and the owners of their places.
-- By recursion, as the definitions are: in the library's words those would be no plainer.
use Rattle.std.proofs.Common.{◌≡◌, ℕ, zero, suc, ◌+◌, ◌<◌, ◌≤◌, true, cond, List, [], ◌∷◌, length, get_or, take, Some, None, nat_lt, refl, ap, ◌∙◌, arith}
use Rattle.std.specs.List.{slice_get}
use Rattle.std.proofs.lemmas.Bool.Decides.{nat_tests}
use Rattle.std.proofs.lemmas.List.{length-append, length-replicate}
use Rattle.hunt.specs.declared.codes.Codes.{Codes}
use Rattle.plan.specs.declared.association.Association.{Association}
use Rattle.plan.specs.Members.{members, nobody, places_of}
use Rattle.plan.specs.Kept.{Kept, sized, laid_out, owner_list}

-- each association with its first place
pub laid_get : (p : ℕ) (ms : List Codes) (k : ℕ) → slice_get (laid_out p ms) k ≡ cond (nat_lt k (length ms)) (Some (record { first = p + places_of (take k ms); codes = get_or ms k nobody })) None
laid_get p [] k = grind (arith, nat_tests)
laid_get p (m ∷ ms) zero = grind (arith, nat_tests)
laid_get p (m ∷ ms) (suc k) = grind (arith, nat_tests, laid_get (p + m.size) ms k)

-- the codes of an association lie within the places
pub sum_within : (ms : List Codes) (k : ℕ) → k < length ms → places_of (take k ms) + (get_or ms k nobody).size ≤ places_of ms
sum_within [] k h = absurd (omega arith)
sum_within (m ∷ ms) zero h = omega arith
sum_within (m ∷ ms) (suc k) h = let rest = sum_within ms k (omega arith) in omega arith

-- each association of a plan has 1 to 256 codes
pub sized_at : (ms : List Codes) (k : ℕ) → sized ms ≡ true → k < length ms → (1 ≤ (get_or ms k nobody).size) × ((get_or ms k nobody).size ≤ 256)
sized_at [] k e h = absurd (omega arith)
sized_at (m ∷ ms) zero e h = grind (arith, nat_tests)
sized_at (m ∷ ms) (suc k) e h = sized_at ms k (grind (arith, nat_tests)) (omega arith)

-- each place has an owner
pub length_owners : (a : ℕ) (ms : List Codes) → length (owner_list a ms) ≡ places_of ms
length_owners a [] = refl
length_owners a (m ∷ ms) = simp (length-append, length-replicate) (omega (arith, length_owners (a + 1) ms))

pub owned_places : (xs : List Association) (os : List ℕ) → Kept xs os → length os ≡ places_of (members xs)
owned_places xs os kept = ap length kept.owned ∙ length_owners 1 (members xs)
