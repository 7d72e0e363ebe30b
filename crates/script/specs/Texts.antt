-- What is written, in bytes.
-- tally_text: the last line of a script
-- error_line, told_line, line_text, lines_text: what lines are answered
-- transcript, Transcribed: what a whole script writes
use Rattle.std.specs.Prelude.{◌≡◌, ℕ, Bool, true, List, [], ◌∷◌, ◌++◌, Some, None, Ok, Err, codes, decimal, Result, ◌==◌}
use Rattle.std.specs.List.{list_all}
use Rattle.exchange.specs.Answers.{answer_of}
use Rattle.exchange.specs.Texts.{answer_text, turn_text, denial_text}
use Rattle.exchange.specs.declared.answer.Answer.{Answer}
use Rattle.exchange.specs.declared.denial.Denial.{Denial}
use Rattle.exchange.specs.declared.denial.Denial.TheVariants.{OutOfTurn, Refused}
use Rattle.reading.specs.Faults.{fault_text}
use Rattle.reading.specs.declared.known.Known.{Known}
use Rattle.reading.specs.Lines.{Line, knows_line}
use Rattle.script.specs.Tallies.{Standing, more, fresh, after, after_all, tally_of}
use Rattle.script.specs.declared.tally.Tally.{Tally}

-- the last line of a script
abbrev pub tally_text : Tally → List ℕ
tally_text t =
    codes "total associations " ++ (decimal t.associations ++ (codes " codes " ++ (decimal t.codes ++ (codes " answered " ++ (decimal t.answered ++ (codes " refused " ++ (decimal t.refused ++ (codes " errors " ++ decimal t.errors))))))))

-- what line n is answered where it is in error
abbrev pub error_line : ℕ → List ℕ → List ℕ
error_line n why = codes "error line " ++ (decimal n ++ (codes ": " ++ (why ++ 10 ∷ [])))

-- what line n is answered where it is a command: its answer or its refusal, or an error where it is out of turn
abbrev pub told_line : ℕ → Result Answer Denial → List ℕ
told_line n (Ok x) = answer_text x ++ 10 ∷ []
told_line n (Err (Refused r)) = denial_text (Refused r) ++ 10 ∷ []
told_line n (Err (OutOfTurn turn)) = error_line n (turn_text turn)

-- what a line is answered: nothing where it is passed over
abbrev pub line_text : Line → Standing → List ℕ
line_text (Ok None) s = []
line_text (Ok (Some c)) s = told_line (more s.lines) (answer_of s.site c)
line_text (Err fault) s = error_line (more s.lines) (fault_text fault)

-- what the lines of a script are answered, one after another
abbrev pub lines_text : List Line → Standing → List ℕ
lines_text [] s = []
lines_text (l ∷ ls) s = line_text l s ++ lines_text ls (after l s)

-- what a whole script writes: the answers to its lines, and what it came to
abbrev pub transcript : List Line → List ℕ
transcript ls = lines_text ls fresh ++ (tally_text (tally_of (after_all ls fresh)) ++ 10 ∷ [])

-- a script of those lines, which are all known, wrote that text, and no line was in error
pub record Transcribed (known : Known) (ls : List Line) (text : List ℕ) (clean : Bool) : Type 0 where
  pub known_all : list_all (knows_line known) ls ≡ true
  pub whole : text ≡ transcript ls
  pub faultless : clean ≡ ((after_all ls fresh).errors == 0)
