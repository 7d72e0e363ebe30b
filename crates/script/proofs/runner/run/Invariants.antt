use Rattle.std.specs.List.{list_all}
use Rattle.std.proofs.Common.{◌≡◌, true, List, string_bytes}
use Rattle.script.specs.Tallies.{standing, fresh, after_all}
use Rattle.script.specs.Texts.{lines_text}
use Rattle.reading.specs.Lines.{Line, knows_line}
use Rattle.script.proofs.runner.run.Given as goal

-- the lines so far, how the script stands after them, and what they were answered
abbrev pub invariant-loop-line : goal.invariant-loop-line
invariant-loop-line l = (ls : List Line) × (list_all (knows_line l.fn.known) ls ≡ true) × (standing l.runner ≡ after_all ls fresh) × (string_bytes l.text ≡ lines_text ls fresh)
