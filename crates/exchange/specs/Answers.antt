-- What a command is answered, and what it leaves.
-- when_drafting, when_open: a command that has its turn
-- unless_refused, about, draft_answer, hunt_answer, show_answer, poke_answer: single answers
-- answer_of: the answer to a command
-- from_draft, from_open, poking, opening, stage_after: the node that it leaves
-- lent_then, lent_after: what calls are lent then
-- site_after: both
-- Obeyed: a command is carried out, or denied
use Rattle.std.specs.Prelude.{◌≡◌, ℕ, ◌+◌, cond, List, length, Some, None, Ok, Err, Option, Result}
use Rattle.choice.specs.Hosts.{fresh_host, keeps}
use Rattle.choice.specs.Orders.{named}
use Rattle.choice.specs.declared.host.HostKind.{HostKind}
use Rattle.choice.specs.declared.order.Order.{Order}
use Rattle.node.specs.declared.lent.Lent.{Lent}
use Rattle.node.specs.Lent.{lending}
use Rattle.node.specs.Opening.{opened}
use Rattle.node.specs.Places.{at, put}
use Rattle.node.specs.World.{World, with_table}
use Rattle.plan.specs.Drafts.{draft_refusal, added}
use Rattle.hunt.specs.declared.codes.Codes.{Codes}
use Rattle.plan.specs.Members.{places_of, is_place_of, association_of, address_of}
use Rattle.signal.specs.declared.code.Code.{Code}
use Rattle.signal.specs.declared.refusal.Refusal.{Refusal}
use Rattle.signal.specs.declared.refusal.Refusal.TheVariants.{Association as No-association, Place as No-place}
use Rattle.exchange.specs.Sites.{Bearers, bearer_kit, Stage, drafting, running, plan_of, Site}
use Rattle.exchange.specs.declared.answer.Answer.{Answer}
use Rattle.exchange.specs.declared.answer.Answer.TheVariants.{Drafted, Hunt, Opened, Shown, Phase as Phase-shown, Kept as Kept-shown, Poked, Done}
use Rattle.exchange.specs.declared.denial.Denial.{Denial}
use Rattle.exchange.specs.declared.denial.Denial.TheVariants.{OutOfTurn, Refused}
use Rattle.exchange.specs.declared.denial.Turn.TheVariants.{NotOpen, Open as Open-already}
use Rattle.exchange.specs.declared.command.Command.{Command}
use Rattle.exchange.specs.declared.command.Command.TheVariants.{Association as Draft-one, Hunt as Show-hunt, Open as Open-node, Show, Phase as Show-phase, Kept as Show-kept, Poke, Lists, Table}

-- only a draft can do it
abbrev pub when_drafting : Stage → (List Codes → Result Answer Denial) → Result Answer Denial
when_drafting (drafting ms) f = f ms
when_drafting (running w) f = Err (OutOfTurn Open-already)

-- only an open node can do it
abbrev pub when_open : Stage → (World Bearers → Result Answer Denial) → Result Answer Denial
when_open (drafting ms) f = Err (OutOfTurn NotOpen)
when_open (running w) f = f w

-- the answer, unless there is a refusal
abbrev pub unless_refused : Option Refusal → Answer → Result Answer Denial
unless_refused None x = Ok x
unless_refused (Some r) x = Err (Refused r)

-- the answer about what there is, or the refusal of what there is not
abbrev pub about : {A : Type 0} → Refusal → (A → Answer) → Option A → Result Answer Denial
about r f None = Err (Refused r)
about r f (Some x) = Ok (f x)

-- the next number, and the places that follow the last
abbrev pub draft_answer : ℕ → List Codes → Result Answer Denial
draft_answer size ms = unless_refused (draft_refusal ms size) (Drafted (length ms + 1) (places_of ms + 1) (places_of ms + size))

-- the hunt of an association, if it exists
abbrev pub hunt_answer : ℕ → Order → List Codes → Result Answer Denial
hunt_answer a order ms = about No-association (λ x. Hunt a order x.codes) (association_of ms a)

-- the code that a place is, with its record and its phase, if it exists
abbrev pub show_answer : ℕ → World Bearers → Result Answer Denial
show_answer p w = about No-place (λ x. Shown p x (at w.table p) (bearer_kit.phase w.host p)) (address_of w.plan p)

-- any place can be written
abbrev pub poke_answer : ℕ → World Bearers → Result Answer Denial
poke_answer p w = cond (is_place_of w.plan p) (Ok Poked) (Err (Refused No-place))

-- the answer to a command
abbrev pub answer_of : Site → Command → Result Answer Denial
answer_of s (Draft-one size side) = when_drafting s.stage (draft_answer size)
answer_of s (Show-hunt order a) = hunt_answer a order (plan_of s.stage)
answer_of s (Open-node order kind n) = when_drafting s.stage (λ ms. Ok (Opened (length ms) (places_of ms)))
answer_of s (Show p) = when_open s.stage (show_answer p)
answer_of s (Show-phase p) = when_open s.stage (λ w. Ok (Phase-shown (bearer_kit.phase w.host p)))
answer_of s (Show-kept p) = when_open s.stage (λ w. Ok (Kept-shown (keeps w.host p)))
answer_of s (Poke p c) = when_open s.stage (poke_answer p)
answer_of s (Lists m n) = when_open s.stage (λ w. Ok Done)
answer_of s (Table n) = when_open s.stage (λ w. Ok Done)

-- what a draft turns into; an open node stays
abbrev pub from_draft : (List Codes → Stage) → Stage → Stage
from_draft f (drafting ms) = f ms
from_draft f (running w) = running w

-- what an open node turns into; a draft stays
abbrev pub from_open : (World Bearers → World Bearers) → Stage → Stage
from_open f (drafting ms) = drafting ms
from_open f (running w) = running (f w)

-- the record of a place written, where there is such a place
abbrev pub poking : ℕ → Code → World Bearers → World Bearers
poking p c w = cond (is_place_of w.plan p) (with_table (put p c) w) w

-- a node that is opened by name, with a table for 4096 places
abbrev pub opening : Order → HostKind → ℕ → List Codes → Stage
opening order kind n ms = running (opened bearer_kit (fresh_host kind n) (named order) ms 4096)

-- the node after a command; a question, and a command out of turn, leave it as it was
abbrev pub stage_after : Stage → Command → Stage
stage_after s (Draft-one size side) = from_draft (λ ms. drafting (added ms size side)) s
stage_after s (Open-node order kind n) = from_draft (opening order kind n) s
stage_after s (Poke p c) = from_open (poking p c) s
stage_after s c = s

-- what an open node is lent; before `open`, nothing alters
abbrev pub lent_then : Stage → Lent → Lent → Lent
lent_then (drafting ms) l m = l
lent_then (running w) l m = m

-- what calls are lent after a command
abbrev pub lent_after : Stage → Lent → Command → Lent
lent_after s l (Lists m n) = lent_then s l (lending l.codes m n)
lent_after s l (Table n) = lent_then s l (lending n l.messages l.notes)
lent_after s l c = l

-- the node, and what its calls are lent, after a command
abbrev pub site_after : Site → Command → Site
site_after s c = record { stage = stage_after s.stage c; lent = lent_after s.stage s.lent c }

-- a command is answered, and alters the site, as it should
pub record Obeyed (command : Command) (old new : Site) (result : Result Answer Denial) : Type 0 where
  pub answer : result ≡ answer_of old command
  pub after : new ≡ site_after old command
