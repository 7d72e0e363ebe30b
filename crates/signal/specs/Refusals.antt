-- Refusals: their numbers, and which of several is answered.
-- refusal_number: the number of each refusal
-- Case, no_case: whether a refusal fits
-- first_fitting: the refusal of a list of cases
-- judged: what a check answers
-- Smallest: it has the smallest number that fits
use Rattle.std.specs.Prelude.{◌≡◌, ℕ, ◌<◌, ◌≤◌, Bool, true, false, cond, List, [], ◌∷◌, length, Some, None, Option, Ok, Err, Result, slice_index_or}
use Rattle.signal.specs.declared.refusal.Refusal.{Refusal}
use Rattle.signal.specs.declared.refusal.Refusal.TheVariants.{Lists, Table, Association, Place, Content, Time, CallNumbers, Unanswered, Size, Full}

-- the number of each refusal
abbrev pub refusal_number : Refusal → ℕ
refusal_number Lists = 1
refusal_number Table = 2
refusal_number Association = 3
refusal_number Place = 4
refusal_number Content = 5
refusal_number Time = 6
refusal_number CallNumbers = 7
refusal_number Unanswered = 8
refusal_number Size = 10
refusal_number Full = 11

-- a case: whether it fits, and the refusal
abbrev pub Case : Type 0
Case = Bool × Refusal

-- a case that never fits
abbrev pub no_case : Case
no_case = (false, Lists)

-- the first case that fits is answered
abbrev pub first_fitting : List Case → Option Refusal
first_fitting [] = None
first_fitting (x ∷ xs) = cond x.0 (Some x.1) (first_fitting xs)

-- what a check answers: nothing to say where no case fits, or else the refusal
abbrev pub judged : Option Refusal → Result (Unit {0}) Refusal
judged None = Ok tt
judged (Some r) = Err r

-- what is answered has the smallest number of all the cases that fit
abbrev pub Smallest : List Case → Type 0
Smallest cases = (r : Refusal) → first_fitting cases ≡ Some r → (k : ℕ) → k < length cases → (slice_index_or cases k no_case).0 ≡ true → refusal_number r ≤ refusal_number (slice_index_or cases k no_case).1
