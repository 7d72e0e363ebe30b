-- What a command is answered, in bytes.
-- codes_text, answer_text: an answer
-- turn_text, denial_text: why a command is not carried out
use Rattle.std.specs.Prelude.{ℕ, zero, suc, ◌+◌, List, [], ◌++◌, codes, decimal}
use Rattle.choice.specs.Orders.{named}
use Rattle.signal.specs.Refusals.{refusal_number}
use Rattle.bearer.specs.Words.{phase_text}
use Rattle.signal.specs.Words.{flag_text, record_text}
use Rattle.exchange.specs.declared.answer.Answer.{Answer}
use Rattle.exchange.specs.declared.answer.Answer.TheVariants.{Drafted, Hunt, Opened, Shown, Phase as Phase-shown, Kept as Kept-shown, Poked, Done}
use Rattle.exchange.specs.declared.denial.Denial.{Denial}
use Rattle.exchange.specs.declared.denial.Denial.TheVariants.{OutOfTurn, Refused}
use Rattle.exchange.specs.declared.denial.Turn.{Turn}
use Rattle.exchange.specs.declared.denial.Turn.TheVariants.{NotOpen, Open as Open-already}

-- the codes from position p on, so many of them, each behind a space
abbrev pub codes_text : (ℕ → ℕ) → ℕ → ℕ → List ℕ
codes_text order p zero = []
codes_text order p (suc left) = (codes " " ++ decimal (order p)) ++ codes_text order (p + 1) left

-- an answer to a command
abbrev pub answer_text : Answer → List ℕ
answer_text (Drafted a first last) = codes "association " ++ (decimal a ++ (codes " places " ++ (decimal first ++ (codes "-" ++ decimal last))))
answer_text (Hunt a order x) = (codes "hunt " ++ (decimal a ++ codes ":")) ++ codes_text (named order x.size x.side) 0 x.size
answer_text (Opened a p) = codes "open " ++ (decimal a ++ (codes " " ++ decimal p))
answer_text (Shown p x c phase) = codes "place " ++ (decimal p ++ (codes " " ++ (decimal x.association ++ (codes "/" ++ (decimal x.code ++ (codes " " ++ (record_text c ++ (codes " phase " ++ phase_text phase))))))))
answer_text (Phase-shown phase) = codes "phase " ++ phase_text phase
answer_text (Kept-shown kept) = codes "kept " ++ flag_text kept
answer_text Poked = codes "poked"
answer_text Done = codes "done"

-- why a command has not its turn
abbrev pub turn_text : Turn → List ℕ
turn_text NotOpen = codes "the node is not open yet"
turn_text Open-already = codes "the node is open already"

-- why a command is not carried out; of a refusal, its number
abbrev pub denial_text : Denial → List ℕ
denial_text (OutOfTurn turn) = turn_text turn
denial_text (Refused r) = codes "refused " ++ decimal (refusal_number r)
