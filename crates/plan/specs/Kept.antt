-- What always holds of a plan.
-- sized: the size of each association is within its limits
-- laid_out: the associations with their first places
-- owner_list: the association of each place
-- Kept: all of this, with the limits of a plan
use Rattle.std.specs.Prelude.{◌≡◌, ℕ, ◌+◌, ◌≤◌, Bool, true, ◌&&◌, List, [], ◌∷◌, ◌++◌, length, replicate, nat_le}
use Rattle.hunt.specs.declared.codes.Codes.{Codes}
use Rattle.plan.specs.declared.association.Association.{Association}
use Rattle.plan.specs.Members.{members}

-- each association has 1 to 256 codes
abbrev pub sized : List Codes → Bool
sized [] = true
sized (m ∷ ms) = (nat_le 1 m.size && nat_le m.size 256) && sized ms

-- the associations of a plan whose first place is p
abbrev pub laid_out : ℕ → List Codes → List Association
laid_out p [] = []
laid_out p (m ∷ ms) = record { first = p; codes = m } ∷ laid_out (p + m.size) ms

-- for each place in order the number of its association, where the first has number a
abbrev pub owner_list : ℕ → List Codes → List ℕ
owner_list a [] = []
owner_list a (m ∷ ms) = replicate m.size a ++ owner_list (a + 1) ms

-- the associations of a plan, and the number of the association of each place
pub record Kept (xs : List Association) (owners : List ℕ) : Type 0 where
  pub few : length xs ≤ 128
  pub room : length owners ≤ 4096
  pub fair : sized (members xs) ≡ true
  pub laid : xs ≡ laid_out 1 (members xs)
  pub owned : owners ≡ owner_list 1 (members xs)
