-- What a draft refuses, and what adding makes of it.
-- draft_cases, draft_refusal: whether an association fits
-- unless, added: the plan with one more association
use Rattle.std.specs.Prelude.{ℕ, ◌+◌, ◌||◌, List, [], ◌∷◌, ◌++◌, length, Some, None, Option, ◌==◌, nat_lt}
use Rattle.hunt.specs.declared.side.Side.{Side}
use Rattle.signal.specs.declared.refusal.Refusal.{Refusal}
use Rattle.signal.specs.declared.refusal.Refusal.TheVariants.{Size, Full}
use Rattle.signal.specs.Refusals.{Case, first_fitting}
use Rattle.hunt.specs.declared.codes.Codes.{Codes}
use Rattle.plan.specs.Members.{drafted, places_of}

-- a size that no association has; a 129th association, or a 4097th code
abbrev pub draft_cases : List Codes → ℕ → List Case
draft_cases ms size =
    (size == 0 || nat_lt 256 size, Size) ∷
    (nat_lt 128 (length ms + 1) || nat_lt 4096 (places_of ms + size), Full) ∷ []

-- why an association of that size does not fit, if so
abbrev pub draft_refusal : List Codes → ℕ → Option Refusal
draft_refusal ms size = first_fitting (draft_cases ms size)

-- unaltered where it is refused
abbrev pub unless : {A : Type 0} → Option Refusal → A → A → A
unless None y x = y
unless (Some r) y x = x

-- one more association at the end, where it fits
abbrev pub added : List Codes → ℕ → Side → List Codes
added ms size side = unless (draft_refusal ms size) (ms ++ drafted size side ∷ []) ms
