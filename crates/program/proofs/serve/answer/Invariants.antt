use Rattle.std.specs.List.{list_all}
use Rattle.std.specs.Io.KnownBytes.{Appends}
use Rattle.std.proofs.Common.{◌≡◌, ℕ, true, List, ◌++◌, string_bytes}
use Rattle.reading.specs.Lines.{Line, knows_line}
use Rattle.script.specs.Tallies.{standing, fresh, after_all}
use Rattle.script.specs.Texts.{lines_text}
use Rattle.program.proofs.serve.answer.Given as goal

-- the lines so far, all known, how the script stands after them, and what they were answered: some
-- of it written, and the rest in the text
abbrev pub invariant-loop : goal.invariant-loop
invariant-loop g l =
    (ls : List Line) × (list_all (knows_line l.fn.known) ls ≡ true) × (standing l.runner ≡ after_all ls fresh) ×
    (written : List ℕ) × Appends (g.W.Write.contents l.initial.out) (g.W.Write.contents l.out) written × (written ++ string_bytes l.text ≡ lines_text ls fresh)
