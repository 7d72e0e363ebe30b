-- Lines of a script.
-- Line: what a line is
-- is_comment: a line that is passed over, whatever it says
-- knows: the commands that a script knows
-- part_of, knows_part, knows_fault: the faults that its lines can have
-- knows_line: its lines
use Rattle.std.specs.Prelude.{ℕ, Bool, true, false, ◌&&◌, List, length, ◌==◌, nat_lt, slice_index, Some, None, Ok, Err, Option, Result}
use Rattle.exchange.specs.declared.command.Command.{Command}
use Rattle.exchange.specs.declared.command.Command.TheVariants.{Association, Hunt}
use Rattle.reading.specs.declared.fault.Fault.{Fault}
use Rattle.reading.specs.declared.fault.Fault.TheVariants.{Missing, Unreadable}
use Rattle.reading.specs.declared.fault.Part.{Part}
use Rattle.reading.specs.declared.fault.Part.TheVariants.{Size, Side, Order, Association as Association-part}
use Rattle.reading.specs.declared.known.Known.{Known}
use Rattle.reading.specs.declared.known.Known.TheVariants.{Planning, All}

-- passed over, as a comment is, a command, or in error
abbrev pub Line : Type 0
Line = Result (Option Command) Fault

-- its very first character is `#`
abbrev pub is_comment : List ℕ → Bool
is_comment line = nat_lt 0 (length line) && slice_index line 0 == 35

-- every command, or those of a plan alone
abbrev pub knows : Known → Command → Bool
knows All c = true
knows Planning (Association size side) = true
knows Planning (Hunt order a) = true
knows Planning c = false

-- the part of a command that a fault is about, if it is about one
abbrev pub part_of : Fault → Option Part
part_of (Missing part) = Some part
part_of (Unreadable part word) = Some part
part_of fault = None

-- the parts of the commands that are known
abbrev pub knows_part : Known → Part → Bool
knows_part All part = true
knows_part Planning Size = true
knows_part Planning Side = true
knows_part Planning Order = true
knows_part Planning Association-part = true
knows_part Planning part = false

-- a fault is about no part, or about one of a command that is known
abbrev pub knows_fault : Known → Option Part → Bool
knows_fault known None = true
knows_fault known (Some part) = knows_part known part

-- a line is passed over, or a command that is known, or has such a fault
abbrev pub knows_line : Known → Line → Bool
knows_line known (Ok None) = true
knows_line known (Ok (Some c)) = knows known c
knows_line known (Err fault) = knows_fault known (part_of fault)
