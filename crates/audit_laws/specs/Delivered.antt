-- What lanes bring.
use Rattle.std.specs.Prelude.{List, [], length, Option}
use Rattle.sink_journal.specs.declared.journal.Entry.{Entry}
use Rattle.sink_journal.specs.declared.journal.Feed.{Feed}
use Rattle.tuple_trace.specs.declared.row.Row.{Row}
use Rattle.tuple_trace.specs.declared.tuple.Item.{Item}
use Rattle.flow_model.specs.declared.topology.Lane.{Lane}
use Rattle.flow_model.specs.Begin.{Begin}
use Rattle.flow_model.specs.Feeding.{feed_from}
use Rattle.flow_model.specs.SetupView.{SetupView}
use Rattle.flow_model.specs.Requests.{afters}
use Rattle.flow_model.specs.Run.{put_by, ran_as}

-- The feed of every run of these rows from this beginning on.
abbrev pub feed_of : Begin → SetupView → List Row → List Feed
feed_of begin setup rows = feed_from begin.row begin.turned (afters setup.requests) (length rows)

-- What a lane brings if the workers have these journals: the rows that are fed, or what the replay
-- of its sender's journal sends.
abbrev pub delivered :
    Begin → SetupView → List Row → List (List Entry) → Lane → Option (List Item)
delivered begin setup rows journals lane =
    put_by begin rows (ran_as setup (feed_of begin setup rows) journals []) lane lane.sender
