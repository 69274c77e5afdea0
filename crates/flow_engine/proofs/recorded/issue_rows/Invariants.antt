use Rattle.std.proofs.Common.{◌≡◌, ◌≤◌, ◌++◌, drop}
use Rattle.coordinator.specs.Feeding.{issue_rows}
use Rattle.flow_engine.proofs.recorded.issue_rows.Given as goal

-- the requests so far, and those of the rest after so many rows
abbrev pub invariant-loop-feed : goal.invariant-loop-feed
invariant-loop-feed l = record {
  fed : l.fed ≤ l.feed-index;
  waits : l.waits.items ++ issue_rows l.fed (drop l.feed-index l.feeds) ≡ issue_rows 0 l.feeds;
}
