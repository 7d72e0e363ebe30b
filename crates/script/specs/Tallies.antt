-- What a line makes of a script under way.
-- Standing, standing, fresh: how a script stands
-- more, faulted, told, obeyed: after an error, an answer and a command
-- next_line, after, after_all: after a line, and after some
-- tally_of: what the last line tells
use Rattle.std.specs.Prelude.{ℕ, ◌+◌, min, List, [], ◌∷◌, length, Some, None, Ok, Err, Result}
use Rattle.plan.specs.Members.{places_of}
use Rattle.exchange.specs.Answers.{answer_of, site_after}
use Rattle.exchange.specs.Sites.{Site, plan_of, site_of, fresh_site}
use Rattle.exchange.specs.declared.answer.Answer.{Answer}
use Rattle.exchange.specs.declared.command.Command.{Command}
use Rattle.exchange.specs.declared.denial.Denial.{Denial}
use Rattle.exchange.specs.declared.denial.Denial.TheVariants.{OutOfTurn, Refused}
use Rattle.reading.specs.Lines.{Line}
use Rattle.reading.specs.Numbers.{largest}
use Rattle.script.specs.declared.runner.Runner.{Runner}
use Rattle.script.specs.declared.tally.Tally.{Tally}

-- the node and what it is lent, and the lines, answers, refusals and errors so far
pub record Standing : Type 0 where
  pub site : Site
  pub lines : ℕ
  pub answered : ℕ
  pub refused : ℕ
  pub errors : ℕ

-- how a script stands
abbrev pub standing : Runner → Standing
standing r = record { site = site_of r.exchange; lines = r.lines; answered = r.answered; refused = r.refused; errors = r.errors }

-- at the start
abbrev pub fresh : Standing
fresh = record { site = fresh_site; lines = 0; answered = 0; refused = 0; errors = 0 }

-- one more; a count beyond 64 bits stays at the largest
abbrev pub more : ℕ → ℕ
more n = min (n + 1) largest

-- an error is counted
abbrev pub faulted : Standing → Standing
faulted s = record { site = s.site; lines = s.lines; answered = s.answered; refused = s.refused; errors = more s.errors }

-- what a command is told is counted: answers, refusals, and as an error what is out of turn
abbrev pub told : Result Answer Denial → Standing → Standing
told (Ok x) s = record { site = s.site; lines = s.lines; answered = more s.answered; refused = s.refused; errors = s.errors }
told (Err (Refused r)) s = record { site = s.site; lines = s.lines; answered = s.answered; refused = more s.refused; errors = s.errors }
told (Err (OutOfTurn turn)) s = faulted s

-- a command is carried out, and what it was told counted
abbrev pub obeyed : Command → Standing → Standing
obeyed c s = told (answer_of s.site c) (record { site = site_after s.site c; lines = s.lines; answered = s.answered; refused = s.refused; errors = s.errors })

-- every line is counted
abbrev pub next_line : Standing → Standing
next_line s = record { site = s.site; lines = more s.lines; answered = s.answered; refused = s.refused; errors = s.errors }

-- a line that is passed over alters nothing else, one that asks is carried out, one in error counts as such
abbrev pub after : Line → Standing → Standing
after (Ok None) s = next_line s
after (Ok (Some c)) s = obeyed c (next_line s)
after (Err fault) s = faulted (next_line s)

-- after some lines, one after another
abbrev pub after_all : List Line → Standing → Standing
after_all [] s = s
after_all (l ∷ ls) s = after_all ls (after l s)

-- the associations and codes of the node, with the counts
abbrev pub tally_of : Standing → Tally
tally_of s = record { associations = length (plan_of s.site.stage); codes = places_of (plan_of s.site.stage); answered = s.answered; refused = s.refused; errors = s.errors }
