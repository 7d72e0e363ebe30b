-- The world of a node, what a step makes of it, and how steps follow one another.
-- World: all that a call can alter
-- Outcome, Step: what a call, or a part of one, makes of a world
-- sending, noting, changing, resting: the steps of which all others are made
-- looking, _then_, each: how they are put together
-- Sheet, laid, onto: a list, and what is written behind what it has so far
-- Flow, lift: a step in the midst of a call
-- with_table, with_host, next_call, with_call: changes of one part of a world
use Rattle.std.specs.Prelude.{ℕ, zero, suc, ◌+◌, List, [], ◌∷◌, ◌++◌, length, Option, slice_set}
use Rattle.hunt.specs.declared.side.Side.{Side}
use Rattle.hunt.specs.declared.codes.Codes.{Codes}
use Rattle.signal.specs.declared.code.Code.{Code}
use Rattle.signal.specs.declared.maintenance.Unanswered.{Unanswered}
use Rattle.signal.specs.declared.message.Message.{Message}
use Rattle.signal.specs.declared.note.Note.{Note}

-- the records of the places, the state of the host, the hunt order, the associations, for each
-- association the order that waits for its answer, the time, and the call number given last
pub record World (S : Type 0) : Type 0 where
  pub table : List Code
  pub host : S
  pub order : ℕ → Side → ℕ → ℕ
  pub plan : List Codes
  pub orders : List (Option Unanswered)
  pub time : ℕ
  pub calls : ℕ

-- the world afterwards, and what was sent and noted
pub record Outcome (S : Type 0) : Type 0 where
  pub world : World S
  pub messages : List Message
  pub notes : List Note

-- a step sees the world, and never the caller's lists
abbrev pub Step : Type 0 → Type 0
Step S = World S → Outcome S

infixl 20 ◌then◌
-- one step after another
unfoldable pub ◌then◌ : {S : Type 0} → Step S → Step S → Step S
(s then t) w = record {
  world = (t (s w).world).world;
  messages = (s w).messages ++ (t (s w).world).messages;
  notes = (s w).notes ++ (t (s w).world).notes;
}

-- a list, and how many of its entries are written
pub record Sheet (X : Type 0) : Type 0 where
  pub entries : List X
  pub written : ℕ

-- a list written over another, from index n on
abbrev pub laid : {X : Type 0} → List X → ℕ → List X → List X
laid xs n [] = xs
laid xs n (y ∷ ys) = laid (slice_set xs n y) (n + 1) ys

-- a list written behind what a sheet has so far
abbrev pub onto : {X : Type 0} → Sheet X → List X → Sheet X
onto s ys = record { entries = laid s.entries s.written ys; written = s.written + length ys }

-- a world in the midst of a call: with the records beyond the places, and the two lists as far as
-- they are written
pub record Flow (S : Type 0) : Type 0 where
  pub world : World S
  pub rest : List Code
  pub messages : Sheet Message
  pub notes : Sheet Note

module _ {S : Type 0} where
  -- one message
  unfoldable pub sending : Message → Step S
  sending m w = record { world = w; messages = m ∷ []; notes = [] }

  -- one note
  unfoldable pub noting : Note → Step S
  noting n w = record { world = w; messages = []; notes = n ∷ [] }

  -- a change of the world alone
  unfoldable pub changing : (World S → World S) → Step S
  changing f w = record { world = f w; messages = []; notes = [] }

  -- nothing
  unfoldable pub resting : Step S
  resting w = record { world = w; messages = []; notes = [] }

  -- a step that looks at the world first
  unfoldable pub looking : (World S → Step S) → Step S
  looking s w = s w w

  -- a step for each number from `a` on, `n` of them
  unfoldable pub each : (ℕ → Step S) → ℕ → ℕ → Step S
  each s a zero = resting
  each s a (suc n) = s a then each s (a + 1) n

  -- what a step does in the midst of a call: the records beyond the places stay, and what is sent
  -- and noted is written behind what the lists have so far
  unfoldable pub lift : Step S → Flow S → Flow S
  lift s f = record {
    world = (s f.world).world;
    rest = f.rest;
    messages = onto f.messages (s f.world).messages;
    notes = onto f.notes (s f.world).notes;
  }

  -- the table changed, and nothing else
  abbrev pub with_table : (List Code → List Code) → World S → World S
  with_table f w = record w { table = f w.table }

  -- the host changed, and nothing else
  abbrev pub with_host : (S → S) → World S → World S
  with_host f w = record w { host = f w.host }

  -- the number that the next call gets
  abbrev pub next_call : World S → ℕ
  next_call w = w.calls + 1

  -- that number given, and nothing else
  abbrev pub with_call : World S → World S
  with_call w = record w { calls = next_call w }
