-- What a command finds and leaves.
-- Bearers, bearer_kit: the host that was chosen
-- Stage, plan_of: a node in draft, or open
-- Site: the node, and what its calls are lent
-- IsDrafting, IsOpen: which of the two an exchange holds
-- staged, stage_of, site_of: what an exchange stands for
-- fresh_site: at the start
use Rattle.std.specs.Prelude.{◌≡◌, List, []}
use Rattle.bearer.specs.Kit.{HostKit}
use Rattle.bearer.specs.PerCall.{Meaning, per_call}
use Rattle.bearer.specs.ReUse.{Keeping, re_use}
use Rattle.bearer.specs.declared.percall.PerCall.{PerCall}
use Rattle.bearer.specs.declared.reuse.ReUse.{ReUse}
use Rattle.choice.specs.Hosts.{Bearing, bearing, chosen}
use Rattle.choice.specs.Orders.{named}
use Rattle.choice.specs.declared.host.Host.{Host}
use Rattle.choice.specs.declared.order.Order.{Order}
use Rattle.hunt.specs.declared.codes.Codes.{Codes}
use Rattle.node.specs.Desks.{world_of}
use Rattle.node.specs.Lent.{lending}
use Rattle.node.specs.World.{World}
use Rattle.node.specs.declared.lent.Lent.{Lent}
use Rattle.node.specs.declared.node.Node.{Node}
use Rattle.signal.specs.declared.code.Code.{Code}
use Rattle.exchange.specs.declared.exchange.Exchange.{Exchange}
use Rattle.exchange.specs.declared.stage.Stage.{Stage as Held}
use Rattle.exchange.specs.declared.stage.Stage.TheVariants.{Drafting, Open}

-- the states of a host that is chosen by name
abbrev pub Bearers : Type 0
Bearers = Bearing Meaning Keeping

-- what such a host does
abbrev pub bearer_kit : HostKit Bearers
bearer_kit = chosen per_call re_use

-- a node is drafted, and then it is open
pub data Stage : Type 0 where
  drafting : List Codes → Stage
  running : World Bearers → Stage

-- the associations of a node
abbrev pub plan_of : Stage → List Codes
plan_of (drafting ms) = ms
plan_of (running w) = w.plan

-- the node, and what its calls are lent
pub record Site : Type 0 where
  pub stage : Stage
  pub lent : Lent

-- an exchange holds a draft
abbrev pub IsDrafting : Held → Type 0
IsDrafting s = (d : List Codes) × (s ≡ Drafting d)

-- an exchange holds an open node
abbrev pub IsOpen : Held → Type 0
IsOpen s = (n : Node (Host PerCall ReUse) Order) × (s ≡ Open n)

-- the draft, or the node with its table
abbrev pub staged : Held → List Code → Stage
staged (Drafting d) t = drafting d
staged (Open n) t = running (world_of bearing named n t)

-- a node is open from `open` on
abbrev pub stage_of : Exchange → Stage
stage_of e = staged e.stage e.table

-- the node of an exchange, and what its calls are lent
abbrev pub site_of : Exchange → Site
site_of e = record { stage = stage_of e; lent = e.lent }

-- nothing is drafted, and what is lent suffices
abbrev pub fresh_site : Site
fresh_site = record { stage = drafting []; lent = lending 4096 96 96 }
