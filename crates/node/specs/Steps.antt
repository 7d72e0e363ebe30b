-- The steps of which all others are made.
-- writing: a record
-- sending_to, sending_on: a message
-- giving, seizing, settling: a bearer
-- numbering: a call number
use Rattle.std.specs.Prelude.{ℕ, Some, None, Option}
use Rattle.bearer.specs.Kit.{HostKit}
use Rattle.plan.specs.declared.association.Address.{Address}
use Rattle.plan.specs.Members.{address_of}
use Rattle.signal.specs.declared.code.Code.{Code}
use Rattle.signal.specs.declared.message.Content.{Content}
use Rattle.node.specs.Places.{put}
use Rattle.node.specs.World.{Step, sending, changing, resting, looking, with_table, with_host, with_call}

module _ {S : Type 0} where
  -- the record of a place is written
  unfoldable pub writing : ℕ → Code → Step S
  writing place c = changing (with_table (put place c))

  -- a message on a code, if there is one
  abbrev pub sending_to : Option Address → Content → Step S
  sending_to None content = resting
  sending_to (Some a) content = sending (record { association = a.association; code = a.code; content = content })

  -- a message goes out on the code that a place is; on place 0, none does
  unfoldable pub sending_on : ℕ → Content → Step S
  sending_on place content = looking (λ w. sending_to (address_of w.plan place) content)

  -- the next call number is given
  unfoldable pub numbering : Step S
  numbering = changing with_call

module _ {S : Type 0} (kit : HostKit S) where
  -- the bearer of a place is given back
  unfoldable pub giving : ℕ → Step S
  giving place = changing (with_host (λ h. kit.given h place))

  -- a bearer is seized for a place, or refused
  unfoldable pub seizing : ℕ → Step S
  seizing place = changing (with_host (λ h. kit.seized h place))

  -- the bearer of a place is up, if it was forming
  unfoldable pub settling : ℕ → Step S
  settling place = changing (with_host (λ h. kit.settled h place))
