-- How a code reacts to a call message.
-- reactions: the table
-- row, column, in_row: where a state and a message stand in it
-- reaction: what a state does with a message
use Rattle.std.specs.Prelude.{ℕ, List, [], ◌∷◌, Some, None, Option, slice_index_or}
use Rattle.signal.specs.declared.reaction.CallMessage.{CallMessage}
use Rattle.signal.specs.declared.reaction.CallMessage.TheVariants.{Iam, Acm, Anm, Rel, Rlc, Rsc}
use Rattle.signal.specs.declared.reaction.Reaction.{Reaction}
use Rattle.signal.specs.declared.reaction.Reaction.TheVariants.{Dash, Take, Reset, Ack, End, EndReset, Release, Dual, Ring, Redo, Again, Answer, Free, AckFree}
use Rattle.signal.specs.declared.state.State.{State}
use Rattle.signal.specs.declared.state.State.TheVariants.{Idle, InSet, InRun, InTalk, OutWait, OutRing, OutHeld, OutTalk, Clearing, Resetting, GroupReset, Unknown}

-- a row for each state, a column for each message
abbrev pub reactions : List (List Reaction)
reactions =
    --              IAM    ACM    ANM      REL   RLC       RSC
    {- Idle -}
    (Take ∷ Reset ∷ Reset ∷ Ack ∷ Dash ∷ Ack ∷ []) ∷
    {- InSet -}
    (Dash ∷ Dash ∷ Dash ∷ End ∷ Release ∷ EndReset ∷ []) ∷
    {- InRun -}
    (Dash ∷ Dash ∷ Dash ∷ End ∷ Release ∷ EndReset ∷ []) ∷
    {- InTalk -}
    (Dash ∷ Dash ∷ Dash ∷ End ∷ Release ∷ EndReset ∷ []) ∷
    {- OutWait -}
    (Dual ∷ Ring ∷ Redo ∷ End ∷ Release ∷ Again ∷ []) ∷
    {- OutRing -}
    (Dash ∷ Dash ∷ Answer ∷ End ∷ Release ∷ EndReset ∷ []) ∷
    {- OutHeld -}
    (Dash ∷ Dash ∷ Dash ∷ End ∷ Release ∷ EndReset ∷ []) ∷
    {- OutTalk -}
    (Dash ∷ Dash ∷ Dash ∷ End ∷ Release ∷ EndReset ∷ []) ∷
    {- Clearing -}
    (Dash ∷ Dash ∷ Dash ∷ Ack ∷ Free ∷ AckFree ∷ []) ∷
    {- Resetting -}
    (Dash ∷ Dash ∷ Dash ∷ Ack ∷ Free ∷ Ack ∷ []) ∷
    {- GroupReset -}
    (Dash ∷ Dash ∷ Dash ∷ Ack ∷ Dash ∷ Ack ∷ []) ∷ []

-- the row of a state; an unknown one has none
abbrev pub row : State → Option ℕ
row Idle = Some 0
row InSet = Some 1
row InRun = Some 2
row InTalk = Some 3
row OutWait = Some 4
row OutRing = Some 5
row OutHeld = Some 6
row OutTalk = Some 7
row Clearing = Some 8
row Resetting = Some 9
row GroupReset = Some 10
row (Unknown n) = None

-- the column of a message
abbrev pub column : CallMessage → ℕ
column Iam = 0
column Acm = 1
column Anm = 2
column Rel = 3
column Rlc = 4
column Rsc = 5

-- what stands in a row; a dash where there is none
abbrev pub in_row : Option ℕ → ℕ → Reaction
in_row None k = Dash
in_row (Some r) k = slice_index_or (slice_index_or reactions r []) k Dash

-- what a code in a state does with a message
abbrev pub reaction : State → CallMessage → Reaction
reaction s m = in_row (row s) (column m)
