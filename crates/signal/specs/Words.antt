-- How the vocabulary is written, in bytes.
-- state_text: a state
-- flag_text: a flag
-- due_text: when a timer runs out
-- digit_char, or_dash, digits_text: the digits of a called number
-- standing_text, course_text, timers_text, record_text: the record of a code
use Rattle.std.specs.Prelude.{ℕ, Bool, true, false, List, [], ◌∷◌, ◌++◌, map, Some, None, codes, decimal, Option, slice_index_or}
-- the library passes on no `code` of a character
use Prim.Native.Char.{code}
use Rattle.signal.specs.Contents.{digits_of}
use Rattle.signal.specs.declared.code.Code.{Code}
use Rattle.signal.specs.declared.digits.Digits.{Digits}
use Rattle.signal.specs.declared.state.State.{State}
use Rattle.signal.specs.declared.state.State.TheVariants.{Idle, InSet, InRun, InTalk, OutWait, OutRing, OutHeld, OutTalk, Clearing, Resetting, GroupReset, Unknown}

-- a state: its name; an unknown one, its number
abbrev pub state_text : State → List ℕ
state_text Idle = codes "Idle"
state_text InSet = codes "InSet"
state_text InRun = codes "InRun"
state_text InTalk = codes "InTalk"
state_text OutWait = codes "OutWait"
state_text OutRing = codes "OutRing"
state_text OutHeld = codes "OutHeld"
state_text OutTalk = codes "OutTalk"
state_text Clearing = codes "Clearing"
state_text Resetting = codes "Resetting"
state_text GroupReset = codes "GroupReset"
state_text (Unknown n) = decimal n

-- a flag
abbrev pub flag_text : Bool → List ℕ
flag_text true = codes "yes"
flag_text false = codes "no"

-- when a timer runs out
abbrev pub due_text : Option ℕ → List ℕ
due_text (Some time) = decimal time
due_text None = codes "off"

-- a digit in hexadecimal; `?` where there is no such digit
abbrev pub digit_char : ℕ → ℕ
digit_char d = slice_index_or (codes "0123456789abcdef") d (code "?")

-- a dash where there is nothing
abbrev pub or_dash : List ℕ → List ℕ
or_dash [] = codes "-"
or_dash (c ∷ cs) = c ∷ cs

-- the digits called, a character each
abbrev pub digits_text : Digits → List ℕ
digits_text d = or_dash (map digit_char (digits_of d))

-- where a code stands: its state, its partner and its blocks
abbrev pub standing_text : Code → List ℕ
standing_text c = state_text c.state ++ (codes " partner " ++ (decimal c.partner ++ (codes " own " ++ (flag_text c.own ++ (codes " peer " ++ flag_text c.peer)))))

-- the course of its call: its number, route and digits, its answer and the cause of its end
abbrev pub course_text : Code → List ℕ
course_text c = codes "call " ++ (decimal c.call ++ (codes " route " ++ (decimal c.route ++ (codes " digits " ++ (digits_text c.digits ++ (codes " answer " ++ (decimal c.answered ++ (codes " cause " ++ decimal c.cause))))))))

-- its timers
abbrev pub timers_text : Code → List ℕ
timers_text c = codes "short " ++ (due_text c.short ++ (codes " long " ++ due_text c.long))

-- the record of a code, on one line
abbrev pub record_text : Code → List ℕ
record_text c = standing_text c ++ (codes " " ++ (course_text c ++ (codes " " ++ timers_text c)))
