-- What a line makes of a script that plans.
-- Carried: a line was carried out, whatever came of its answer
-- is_draft: whether a node is still in draft
-- drafted_after: the draft after it
-- is_late, is_out_of_turn: whether it came out of turn
-- Plans: it leaves a draft, and never comes out of turn
use Rattle.std.specs.Prelude.{◌≡◌, Bool, true, false, List, Some, Ok, Err, Result}
use Rattle.hunt.specs.declared.codes.Codes.{Codes}
use Rattle.plan.specs.Drafts.{added}
use Rattle.exchange.specs.Answers.{answer_of}
use Rattle.exchange.specs.Sites.{Site, Stage, drafting, running}
use Rattle.exchange.specs.declared.answer.Answer.{Answer}
use Rattle.exchange.specs.declared.command.Command.TheVariants.{Association}
use Rattle.exchange.specs.declared.denial.Denial.{Denial}
use Rattle.exchange.specs.declared.denial.Denial.TheVariants.{OutOfTurn}
use Rattle.reading.specs.Lines.{Line, knows_line}
use Rattle.reading.specs.declared.known.Known.{Known}
use Rattle.script.specs.Tallies.{Standing, after}

-- some line that is known was carried out, also where its answer could not be written
pub record Carried (known : Known) (s t : Standing) : Type 0 where
  pub line : Line
  pub is_known : knows_line known line ≡ true
  pub stands : t ≡ after line s

-- a node that was not opened
abbrev pub is_draft : Stage → Bool
is_draft (drafting ms) = true
is_draft (running w) = false

-- an association more, where it fits; all other lines alter nothing
abbrev pub drafted_after : Line → List Codes → List Codes
drafted_after (Ok (Some (Association size side))) ms = added ms size side
drafted_after l ms = ms

-- what a command is told where it is out of turn
abbrev pub is_late : Result Answer Denial → Bool
is_late (Err (OutOfTurn turn)) = true
is_late r = false

-- a line that asks for what has not its turn
abbrev pub is_out_of_turn : Line → Site → Bool
is_out_of_turn (Ok (Some c)) s = is_late (answer_of s c)
is_out_of_turn l s = false

-- where the script had drafted ms before the line
pub record Plans (l : Line) (s t : Standing) (ms : List Codes) : Type 0 where
  pub drafts : t.site.stage ≡ drafting (drafted_after l ms)
  pub in_turn : is_out_of_turn l s.site ≡ false
