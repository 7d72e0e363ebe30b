-- What a call works on, and what is promised of each function that works on it.
-- places, world_of: the world of a node and a table
-- flow: the same in the midst of a call
-- sheet, Grew, HasRoom: a list that is lent, before and after, and what room it has
-- Did: what a working function did
-- Ready: what it needs
use Rattle.std.specs.Prelude.{◌≡◌, ℕ, ◌+◌, ◌≤◌, List, length, take, drop}
use Rattle.hunt.specs.declared.side.Side.{Side}
use Rattle.plan.specs.Members.{places_of}
use Rattle.signal.specs.declared.code.Code.{Code}
use Rattle.node.specs.declared.desk.Desk.{Desk}
use Rattle.node.specs.declared.desk.LentList.{LentList}
use Rattle.node.specs.declared.node.Node.{Node}
use Rattle.node.specs.World.{World, Step, Sheet, Flow, lift}

-- how many places a node has
abbrev pub places : {X Y : Type 0} → Node X Y → ℕ
places n = places_of n.plan

-- a list that is lent, as far as it is written
abbrev pub sheet : {T : Type 0} → LentList T → Sheet T
sheet l = record { entries = l.entries.now; written = l.written }

-- at most `m` entries were written into a list, in the same memory
pub record Grew {T : Type 0} (m : ℕ) (l l' : LentList T) : Type 0 where
  pub few : l'.written ≤ l.written + m
  pub memory : l'.entries.ghost_name ≡ l.entries.ghost_name
  pub room : length l'.entries.now ≡ length l.entries.now

-- a list has room for `m` entries more
abbrev pub HasRoom : {T : Type 0} → ℕ → LentList T → Type 0
HasRoom m l = l.written + m ≤ length l.entries.now

module _ {X Y S : Type 0} (state : X → S) (order : Y → ℕ → Side → ℕ → ℕ) where
  -- of a table, the records of the places belong to the world
  abbrev pub world_of : Node X Y → List Code → World S
  world_of n t = record { table = take (places n) t; host = state n.host; order = order n.order; plan = n.plan; orders = n.orders; time = n.time; calls = n.calls }

  -- with the other records, and the lists as far as they are written
  abbrev pub flow : Node X Y → Desk → Flow S
  flow n d = record { world = world_of n d.table.now; rest = drop (places n) d.table.now; messages = sheet d.messages; notes = sheet d.notes }

  -- the step `s` was taken, in the same memory, with at most `m` messages and `k` notes; the plan
  -- and the time are the same, and so are the lengths of what was lent
  pub record Did (m k : ℕ) (s : Step S) (n n' : Node X Y) (d d' : Desk) : Type 0 where
    pub does : flow n' d' ≡ lift s (flow n d)
    pub messages : Grew m d.messages d'.messages
    pub notes : Grew k d.notes d'.notes
    pub table : d'.table.ghost_name ≡ d.table.ghost_name
    pub codes : length d'.table.now ≡ length d.table.now
    pub plan : n'.plan ≡ n.plan
    pub time : n'.time ≡ n.time

-- the table has all places, and there is room for `m` more messages and `k` more notes
pub record Ready {X Y : Type 0} (m k : ℕ) (n : Node X Y) (d : Desk) : Type 0 where
  pub covers : places n ≤ length d.table.now
  pub messages : HasRoom m d.messages
  pub notes : HasRoom k d.notes
