-- Places and codes: the two maps are inverse.
-- By recursion, as the definitions are: in the library's words those would be no plainer.
use Rattle.std.proofs.Common.{◌≡◌, ℕ, zero, suc, ◌+◌, ◌-◌, ◌<◌, ◌≤◌, true, false, List, [], ◌∷◌, length, get_or, take, Some, None, sym, refl, ap, ◌∙◌, ⊎_elim, arith}
use Rattle.std.specs.List.{slice_get}
use Rattle.std.specs.Option.{option_map}
use Rattle.std.proofs.lemmas.Bool.{cases_lt}
use Rattle.std.proofs.lemmas.Bool.Decides.{nat_tests}
use Rattle.std.proofs.lemmas.Grind.{common_steps}
use Rattle.std.proofs.lemmas.Option.{gets, slice_get-get_or}
use Rattle.hunt.specs.declared.codes.Codes.{Codes}
use Rattle.plan.specs.declared.association.Association.{Association}
use Rattle.plan.specs.Members.{members, nobody, places_of, is_place_of, first_of, address, find_from, address_of, is_code, place_of}
use Rattle.plan.specs.Kept.{Kept, laid_out, owner_list}
use Rattle.plan.proofs.Layouts.{laid_get, sum_within}

-- a code is found where it lies
pub find_at : (a : ℕ) (ms : List Codes) (k c : ℕ) → k < length ms → c < (get_or ms k nobody).size → find_from a ms (places_of (take k ms) + c) ≡ Some (address (a + k) c)
find_at a [] k c h l = absurd (omega arith)
find_at a (m ∷ ms) zero c h l = grind (arith, nat_tests)
find_at a (m ∷ ms) (suc k) c h l = grind (arith, nat_tests, find_at (a + 1) ms k c (omega arith) l)

-- beyond the last code nothing is found
pub find_none : (a : ℕ) (ms : List Codes) (i : ℕ) → places_of ms ≤ i → find_from a ms i ≡ None
find_none a [] i h = refl
find_none a (m ∷ ms) i h = grind (arith, nat_tests, find_none (a + 1) ms (i - m.size) (omega arith))

-- the code c of the association after k others, whose number is o, comes after i others
pub record Owned (a : ℕ) (ms : List Codes) (i o : ℕ) : Type 0 where
  pub k : ℕ
  pub c : ℕ
  pub number : o ≡ a + k
  pub within : k < length ms
  pub inside : c < (get_or ms k nobody).size
  pub after : i ≡ places_of (take k ms) + c

pub owned : (a : ℕ) (ms : List Codes) (i o : ℕ) → slice_get (owner_list a ms) i ≡ Some o → Owned a ms i o
owned a [] i o e = absurd (grind arith)
owned a (m ∷ ms) i o e =
    ⊎_elim
    (λ l. record { k = 0; c = i; number = grind (arith, common_steps, gets); within = omega arith; inside = l; after = omega arith })
    (λ l.
    let w = owned (a + 1) ms (i - m.size) o (grind (arith, common_steps, gets)) in
    record { k = suc w.k; c = w.c; number = omega (arith, w.number); within = omega (arith, w.within); inside = w.inside; after = omega (arith, w.after) })
    (cases_lt i m.size)

-- a code's place has its address
pub address_at : (ms : List Codes) (a c : ℕ) → is_code ms a c ≡ true → address_of ms (first_of ms a + c) ≡ Some (address a c)
address_at ms a c e = grind (arith, nat_tests, find_at 1 ms (a - 1) c)

-- the same by the numbers of an association and of a code of it
pub address_again : (ms : List Codes) (a c : ℕ) → 1 ≤ a → a ≤ length ms → c < (get_or ms (a - 1) nobody).size → address_of ms (first_of ms a + c) ≡ Some (address a c)
address_again ms a c low high l = address_at ms a c (grind (arith, nat_tests))

-- what the place of a code needs
pub ruleset addresses = (common_steps, nat_tests, address_at)

-- beyond the last place there is no address
pub address_beyond : (ms : List Codes) (p : ℕ) → places_of ms < p → address_of ms p ≡ None
address_beyond ms p h = grind (arith, nat_tests, find_none 1 ms (p - 1) (omega arith))

-- a number that is no place has no address
pub address_none : (ms : List Codes) (p : ℕ) → is_place_of ms p ≡ false → address_of ms p ≡ None
address_none ms zero e = refl
address_none ms (suc p) e = address_beyond ms (suc p) (grind (arith, nat_tests))

-- the association o that a place has for its owner
pub record Owner (ms : List Codes) (p o : ℕ) : Type 0 where
  pub after : first_of ms o ≤ p
  pub code : is_code ms o (p - first_of ms o) ≡ true

pub owner_of : (ms : List Codes) (p o : ℕ) → 1 ≤ p → Owned 1 ms (p - 1) o → Owner ms p o
owner_of ms p o low w =
    let k : o - 1 ≡ w.k = omega (arith, w.number) in
    let number = w.number in
    let within = w.within in
    let inside = w.inside in
    let after = w.after in
    record { after = rw k (omega arith); code = grind (arith, nat_tests) }

pub owner : (ms : List Codes) (p o : ℕ) → 1 ≤ p → slice_get (owner_list 1 ms) (p - 1) ≡ Some o → Owner ms p o
owner ms p o low e = owner_of ms p o low (owned 1 ms (p - 1) o e)

-- a place p by its association o: which code it is, and that this code is the place p
module _ (ms : List Codes) (p o : ℕ) (low : 1 ≤ p) (w : Owned 1 ms (p - 1) o) where
  pub address_of_owned : address_of ms p ≡ Some (address o (p - first_of ms o))
  address_of_owned =
      let of = owner_of ms p o low w in
      grind (arith, nat_tests, of.after, address_at ms o (p - first_of ms o) of.code)

  pub place_again : place_of ms o (p - first_of ms o) ≡ Some p
  place_again =
      let of = owner_of ms p o low w in
      grind (arith, nat_tests, of.after, of.code)

-- a place of a plan lies within it
pub record Inside (ms : List Codes) (p : ℕ) : Type 0 where
  pub low : 1 ≤ p
  pub high : p ≤ places_of ms

pub inside_places : (ms : List Codes) (p : ℕ) → is_place_of ms p ≡ true → Inside ms p
inside_places ms p e = record { low = grind (arith, nat_tests); high = grind (arith, nat_tests) }

-- a code of a plan: its association, its first place, and that its place lies within the plan
pub record Coded (ms : List Codes) (a c : ℕ) : Type 0 where
  pub low : 1 ≤ a
  pub high : a ≤ length ms
  pub inside : c < (get_or ms (a - 1) nobody).size
  pub first : slice_get (laid_out 1 ms) (a - 1) ≡ Some (record { first = first_of ms a; codes = get_or ms (a - 1) nobody })
  pub room : first_of ms a + c ≤ places_of ms

pub coded : (ms : List Codes) (a c : ℕ) → is_code ms a c ≡ true → Coded ms a c
coded ms a c e =
    let low : 1 ≤ a = grind (arith, nat_tests) in
    let high : a ≤ length ms = grind (arith, nat_tests) in
    let inside : c < (get_or ms (a - 1) nobody).size = grind (arith, nat_tests) in
    let within = sum_within ms (a - 1) (omega arith) in
    record {
      low = low;
      high = high;
      inside = inside;
      first = grind (arith, nat_tests, laid_get 1 ms (a - 1));
      room = omega arith;
    }

-- the association that a plan has for a place
pub owner_at : (xs : List Association) (os : List ℕ) (p : ℕ) → Kept xs os → 1 ≤ p → p ≤ length os → Owned 1 (members xs) (p - 1) (get_or os (p - 1) 0)
owner_at xs os p kept low high =
    let read = slice_get-get_or os (p - 1) 0 (omega arith) in
    owned 1 (members xs) (p - 1) _ (sym (ap (λ (l : List ℕ). slice_get l (p - 1)) kept.owned) ∙ read)

-- its first place as it stands in the plan
pub first_of_owner : (xs : List Association) (os : List ℕ) (p : ℕ) → Kept xs os → 1 ≤ p → p ≤ length os → option_map (λ x. x.first) (slice_get xs (get_or os (p - 1) 0 - 1)) ≡ Some (first_of (members xs) (get_or os (p - 1) 0))
first_of_owner xs os p kept low high =
    let o = get_or os (p - 1) 0 in
    let of = owner_of (members xs) p o low (owner_at xs os p kept low high) in
    let found = coded (members xs) o (p - first_of (members xs) o) of.code in
    ap (option_map (λ (x : Association). x.first)) (ap (λ (l : List Association). slice_get l (o - 1)) kept.laid ∙ found.first)
