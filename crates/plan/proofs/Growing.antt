-- One association more at the end of a plan.
-- By recursion, as the definitions are: in the library's words those would be no plainer.
use Rattle.std.proofs.Common.{◌≡◌, ℕ, ◌+◌, ◌<◌, ◌≤◌, true, List, [], ◌∷◌, ◌++◌, length, replicate, arith}
use Rattle.std.proofs.lemmas.Bool.Decides.{nat_tests}
use Rattle.std.proofs.lemmas.Grind.{common_steps}
use Rattle.std.proofs.lemmas.List.{map-append, length-map}
use Rattle.hunt.specs.declared.codes.Codes.{Codes}
use Rattle.plan.specs.declared.association.Association.{Association}
use Rattle.plan.specs.Members.{members, places_of}
use Rattle.plan.specs.Kept.{Kept, sized, laid_out, owner_list}
use Rattle.plan.proofs.Layouts.{owned_places}

sized_more : (ms : List Codes) (m : Codes) → sized ms ≡ true → 1 ≤ m.size → m.size ≤ 256 → sized (ms ++ m ∷ []) ≡ true
sized_more [] m h low high = grind (arith, nat_tests)
sized_more (x ∷ xs) m h low high = grind (arith, nat_tests, sized_more xs m)

laid_more : (p : ℕ) (ms : List Codes) (m : Codes) → laid_out p (ms ++ m ∷ []) ≡ laid_out p ms ++ record { first = p + places_of ms; codes = m } ∷ []
laid_more p [] m = grind arith
laid_more p (x ∷ xs) m = grind (arith, laid_more (p + x.size) xs m)

owners_more : (a : ℕ) (ms : List Codes) (m : Codes) → owner_list a (ms ++ m ∷ []) ≡ owner_list a ms ++ replicate m.size (a + length ms)
owners_more a [] m = grind (arith, common_steps)
owners_more a (x ∷ xs) m = grind (arith, common_steps, owners_more (a + 1) xs m)

pub room_for : (xs : List Association) (os : List ℕ) (m : Codes) → Kept xs os → places_of (members xs) + m.size ≤ 4096 → length os + m.size ≤ 4096
room_for xs os m kept room = rw (owned_places xs os kept) room

-- what is kept of a plan that has one more association
pub kept_more : (xs : List Association) (os : List ℕ) (m : Codes) → Kept xs os → length (members xs) < 128 → places_of (members xs) + m.size ≤ 4096 → 1 ≤ m.size → m.size ≤ 256 → Kept (xs ++ record { first = length os + 1; codes = m } ∷ []) (os ++ replicate m.size (length xs + 1))
kept_more xs os m kept few room low high =
    let ms = members xs in
    let more : members (xs ++ record { first = length os + 1; codes = m } ∷ []) ≡ ms ++ m ∷ [] = map-append _ xs _ in
    let places = owned_places xs os kept in
    let count : length ms ≡ length xs = length-map xs _ in
    record {
      few = grind (arith, common_steps);
      room = grind (arith, common_steps);
      fair = rw more (sized_more ms m kept.fair low high);
      laid = rw (more, laid_more 1 ms m) (grind (arith, kept.laid));
      owned = rw (more, owners_more 1 ms m) (grind (arith, kept.owned));
    }
