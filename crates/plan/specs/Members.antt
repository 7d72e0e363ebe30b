-- The plan: associations in order, all their codes in order as places.
-- drafted, nobody: the codes of an association as drafted
-- places_of: how many codes there are
-- is_place_of, is_association: which numbers there are
-- first_of, association_of: an association's first place, and the association
-- address, find_from, address_of: which association and code a place is
-- is_code, place_of: which place a code is
-- members: the codes of a list of associations
use Rattle.std.specs.Prelude.{ℕ, ◌+◌, ◌-◌, Bool, cond, ◌&&◌, List, [], ◌∷◌, map, length, take, Some, None, Option, nat_le, nat_lt, slice_index_or}
use Rattle.hunt.specs.declared.codes.Codes.{Codes}
use Rattle.hunt.specs.declared.side.Side.{Side}
use Rattle.hunt.specs.declared.side.Side.TheVariants.{Even}
use Rattle.plan.specs.declared.association.Address.{Address}
use Rattle.plan.specs.declared.association.Association.{Association}

-- so many codes, of which the node controls those of that side
abbrev pub drafted : ℕ → Side → Codes
drafted size side = record { size = size; side = side }

-- no codes, which stands for one beyond the last
abbrev pub nobody : Codes
nobody = record { size = 0; side = Even }

-- how many codes a plan has
abbrev pub places_of : List Codes → ℕ
places_of [] = 0
places_of (m ∷ ms) = m.size + places_of ms

-- places are numbered from 1
abbrev pub is_place_of : List Codes → ℕ → Bool
is_place_of ms p = nat_le 1 p && nat_le p (places_of ms)

-- associations are numbered from 1
abbrev pub is_association : List Codes → ℕ → Bool
is_association ms a = nat_le 1 a && nat_le a (length ms)

-- the first place of an association follows the codes of those before it
abbrev pub first_of : List Codes → ℕ → ℕ
first_of ms a = 1 + places_of (take (a - 1) ms)

-- an association by its number
abbrev pub association_of : List Codes → ℕ → Option Association
association_of ms a = cond (is_association ms a) (Some (record { first = first_of ms a; codes = slice_index_or ms (a - 1) nobody })) None

-- a code by its association and its number there
abbrev pub address : ℕ → ℕ → Address
address a c = record { association = a; code = c }

-- which code comes after i others, of associations numbered from a on
abbrev pub find_from : ℕ → List Codes → ℕ → Option Address
find_from a [] i = None
find_from a (m ∷ ms) i = cond (nat_lt i m.size) (Some (address a i)) (find_from (a + 1) ms (i - m.size))

-- which association and code a place is; places are numbered from 1
abbrev pub address_of : List Codes → ℕ → Option Address
address_of ms p = cond (nat_le 1 p) (find_from 1 ms (p - 1)) None

-- codes are numbered from 0
abbrev pub is_code : List Codes → ℕ → ℕ → Bool
is_code ms a c = is_association ms a && nat_lt c (slice_index_or ms (a - 1) nobody).size

-- which place a code is
abbrev pub place_of : List Codes → ℕ → ℕ → Option ℕ
place_of ms a c = cond (is_code ms a c) (Some (first_of ms a + c)) None

-- the codes of each association
abbrev pub members : List Association → List Codes
members xs = map (λ x. x.codes) xs
