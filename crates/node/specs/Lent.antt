-- What the caller lends, and when it does not suffice.
-- lending: so many records, messages and notes
-- lent_cases: the refusals of every call that is lent a table and the two lists
use Rattle.std.specs.Prelude.{ℕ, ◌||◌, List, [], ◌∷◌, nat_lt}
use Rattle.signal.specs.declared.refusal.Refusal.TheVariants.{Lists, Table}
use Rattle.signal.specs.Refusals.{Case}
use Rattle.node.specs.declared.lent.Lent.{Lent}

-- so many records, messages and notes
abbrev pub lending : ℕ → ℕ → ℕ → Lent
lending codes messages notes = record { codes = codes; messages = messages; notes = notes }

-- a list under 96 entries, or a table that lacks the record of a place
abbrev pub lent_cases : ℕ → Lent → List Case
lent_cases last l =
    (nat_lt l.messages 96 || nat_lt l.notes 96, Lists) ∷
    (nat_lt l.codes last, Table) ∷ []
