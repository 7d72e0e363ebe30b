-- The records of the places.
-- nowhere, at, put: one record read, and one written
use Rattle.std.specs.Prelude.{ℕ, ◌-◌, false, cond, List, [], None, nat_le, slice_index_or, slice_set}
use Rattle.signal.specs.declared.code.Code.{Code}
use Rattle.signal.specs.declared.state.State.TheVariants.{Idle}
use Rattle.signal.specs.Records.{blank}

-- what is read beyond the end of a table, where no call ever reads
abbrev pub nowhere : Code
nowhere = record { state = Idle; partner = 0; own = false; peer = false; call = 0; route = 0; digits = record { count = 0; values = [] }; answered = 0; cause = 0; short = None; long = None }

-- the record of a place, which stands at index place - 1; place 0 is no code, and reads as blank
unfoldable pub at : List Code → ℕ → Code
at t place = cond (nat_le 1 place) (slice_index_or t (place - 1) nowhere) blank

-- a record written; place 0 is never written
unfoldable pub put : ℕ → Code → List Code → List Code
put place c t = cond (nat_le 1 place) (slice_set t (place - 1) c) t
