-- What a live feeder keeps of its inbox.
use Rattle.std.specs.Prelude.{◌≡◌, List}
use Rattle.coordinator.specs.Live.{AreHeard}
use Rattle.coordinator.specs.Views.{FeederIs}
use Rattle.sink_journal.specs.declared.journal.Feed.{Feed}
use Rattle.live_control.specs.Line.{InboxIs}

-- a live feeder, seen with the loads of its inbox
pub record LiveIs : Type 0 where
  pub feeder : FeederIs
  pub inbox : InboxIs

-- What is left of an inbox goes with the inbox that the feeder was made of: it is of the same line,
-- and its last load shows the release of each request that was issued before the last row.
abbrev pub IsKept : InboxIs → List Feed → InboxIs → Type 0
IsKept seed feeds rest = (rest.line ≡ seed.line) × AreHeard rest.loads feeds
