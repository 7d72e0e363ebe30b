-- An entry for each place, as a list.
-- index_at: where the entry of a place stands
-- entry_of: the entry of a place
-- at_place: the entry of a place, or a default
-- everywhere: the same entry for each place
-- with_entry: the list with another entry at a place
use Rattle.std.specs.Prelude.{ℕ, ◌-◌, cond, List, Option, Some, None, slice_get, slice_index_or, slice_set}
use Rattle.bearer.specs.Kit.{is_place}

-- the entry of place p stands at index p - 1; there is none outside 1 to 4096
abbrev pub index_at : ℕ → Option ℕ
index_at p = cond (is_place p) (Some (p - 1)) None

-- the entry of a place; there is none outside 1 to 4096
abbrev pub entry_of : {A : Type 0} → List A → ℕ → Option A
entry_of xs p = cond (is_place p) (slice_get xs (p - 1)) None

-- what stands at place p, whose index in the list is p - 1; a place outside 1 to 4096 has d
abbrev pub at_place : {A : Type 0} → List A → A → ℕ → A
at_place xs d p = cond (is_place p) (slice_index_or xs (p - 1) d) d

-- x, whatever the place
abbrev pub everywhere : {A : Type 0} → A → ℕ → A
everywhere x p = x

-- the list with x for the place; outside 1 to 4096 nothing alters
abbrev pub with_entry : {A : Type 0} → List A → ℕ → A → List A
with_entry xs p x = cond (is_place p) (slice_set xs (p - 1) x) xs
