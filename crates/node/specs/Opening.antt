-- The world of a node as it opens.
-- opened: over a plan, a host, a hunt order and a table of some length
use Rattle.std.specs.Prelude.{ℕ, min, List, replicate, None}
use Rattle.bearer.specs.Kit.{HostKit}
use Rattle.hunt.specs.declared.side.Side.{Side}
use Rattle.hunt.specs.declared.codes.Codes.{Codes}
use Rattle.plan.specs.Members.{places_of}
use Rattle.signal.specs.Records.{blank}
use Rattle.node.specs.World.{World}

-- every record is blank, as far as the table goes; the host is cleared; no order waits for its
-- answer; the time is 0; no call number was given, so that the first is 1
abbrev pub opened : {S : Type 0} → HostKit S → S → (ℕ → Side → ℕ → ℕ) → List Codes → ℕ → World S
opened kit host order plan codes = record {
  table = replicate (min codes (places_of plan)) blank;
  host = kit.cleared host;
  order = order;
  plan = plan;
  orders = replicate 128 None;
  time = 0;
  calls = 0;
}
