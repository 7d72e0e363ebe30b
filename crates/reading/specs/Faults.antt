-- Why a line is in error, in bytes.
-- part_text, wanted_text: a word of a command, and what it should be
-- fault_text: what is wrong with a line
use Rattle.std.specs.Prelude.{ℕ, List, ◌++◌, codes}
use Rattle.reading.specs.declared.fault.Fault.{Fault}
use Rattle.reading.specs.declared.fault.Fault.TheVariants.{NotText, NoCommand, Missing, Unreadable, Surplus}
use Rattle.reading.specs.declared.fault.Part.{Part}
use Rattle.reading.specs.declared.fault.Part.TheVariants.{Size, Side, Order, Association, Host, Bearers, Place, State, Partner, Own, Peer, Call, Route, Digits, AnswerTime, Cause, Short, Long, Messages, Notes, Records}

-- what a word of a command says
abbrev pub part_text : Part → List ℕ
part_text Size = codes "size"
part_text Side = codes "side"
part_text Order = codes "order"
part_text Association = codes "association"
part_text Host = codes "host"
part_text Bearers = codes "number of bearers"
part_text Place = codes "place"
part_text State = codes "state"
part_text Partner = codes "partner"
part_text Own = codes "own block"
part_text Peer = codes "peer block"
part_text Call = codes "call number"
part_text Route = codes "route"
part_text Digits = codes "string of digits"
part_text AnswerTime = codes "answer time"
part_text Cause = codes "cause"
part_text Short = codes "short due time"
part_text Long = codes "long due time"
part_text Messages = codes "number of messages"
part_text Notes = codes "number of notes"
part_text Records = codes "number of records"

-- what such a word should be
abbrev pub wanted_text : Part → List ℕ
wanted_text Size = codes "a decimal number"
wanted_text Side = codes "even or odd"
wanted_text Order = codes "straight or own-half-first"
wanted_text Association = codes "a decimal number"
wanted_text Host = codes "per-call or re-use"
wanted_text Bearers = codes "a decimal number"
wanted_text Place = codes "a decimal number"
wanted_text State = codes "the name of a state or a number from 11 to 255"
wanted_text Partner = codes "a number up to 65535"
wanted_text Own = codes "yes or no"
wanted_text Peer = codes "yes or no"
wanted_text Call = codes "a number up to 4294967295"
wanted_text Route = codes "a number up to 65535"
wanted_text Digits = codes "- or up to 16 of 0-9 a-f"
wanted_text AnswerTime = codes "a number up to 4294967295"
wanted_text Cause = codes "a number up to 255"
wanted_text Short = codes "off or a number up to 4294967295"
wanted_text Long = codes "off or a number up to 4294967295"
wanted_text Messages = codes "a decimal number"
wanted_text Notes = codes "a decimal number"
wanted_text Records = codes "a decimal number"

-- why a line is in error
abbrev pub fault_text : Fault → List ℕ
fault_text NotText = codes "the line is not text in UTF-8"
fault_text (NoCommand word) = codes "there is no command " ++ word.now
fault_text (Missing part) = codes "the " ++ (part_text part ++ codes " is missing")
fault_text (Unreadable part word) = codes "the " ++ (part_text part ++ (codes " is not " ++ (wanted_text part ++ (codes ": " ++ word.now))))
fault_text (Surplus word) = codes "one word too many: " ++ word.now
