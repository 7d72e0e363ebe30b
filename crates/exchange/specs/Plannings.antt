-- What a plan's command is answered, and what it leaves.
-- denied: a refusal, told as a denial
-- plan_answer: the answer to a command
-- plan_after: the associations drafted then
use Rattle.std.specs.Prelude.{List, Ok, Err, Result}
use Rattle.hunt.specs.declared.codes.Codes.{Codes}
use Rattle.plan.specs.Drafts.{added}
use Rattle.signal.specs.declared.refusal.Refusal.{Refusal}
use Rattle.exchange.specs.Answers.{draft_answer, hunt_answer}
use Rattle.exchange.specs.declared.answer.Answer.{Answer}
use Rattle.exchange.specs.declared.denial.Denial.{Denial}
use Rattle.exchange.specs.declared.denial.Denial.TheVariants.{Refused}
use Rattle.exchange.specs.declared.planning.PlanCommand.{PlanCommand}
use Rattle.exchange.specs.declared.planning.PlanCommand.TheVariants.{Association as Draft-one, Hunt as Show-hunt}

-- a refusal is a denial; it is never that a command is out of turn
abbrev pub denied : Result Answer Refusal → Result Answer Denial
denied (Ok x) = Ok x
denied (Err r) = Err (Refused r)

-- the answer to a command, of the draft alone
abbrev pub plan_answer : List Codes → PlanCommand → Result Answer Denial
plan_answer ms (Draft-one size side) = draft_answer size ms
plan_answer ms (Show-hunt order a) = hunt_answer a order ms

-- an association more, where it fits; a question alters nothing
abbrev pub plan_after : List Codes → PlanCommand → List Codes
plan_after ms (Draft-one size side) = added ms size side
plan_after ms (Show-hunt order a) = ms
