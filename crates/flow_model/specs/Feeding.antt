-- What the feeder of a run does.
use Rattle.std.specs.Prelude.{◌+◌, ◌-◌, ◌==◌, ℕ, zero, suc, Bool, List, [], ◌∷◌, ◌++◌, drop, Option}
use Rattle.std.specs.Prelude.{Some, None, min, nat_le, slice_get, if◌then◌else◌}
use Rattle.jobs.specs.JobView.{JobView}
use Rattle.sink_journal.specs.declared.journal.Feed.{Feed}
use Rattle.sink_journal.specs.declared.journal.Feed.TheVariants as feed
use Rattle.tuple_trace.specs.declared.row.Row.{Row}
use Rattle.tuple_trace.specs.declared.tuple.Item.{Item}
use Rattle.tuple_trace.specs.declared.tuple.Item.TheVariants as item
use Rattle.tuple_trace.specs.declared.tuple.Tuple.{Tuple}
use Rattle.flow_model.specs.declared.topology.Lane.{Lane}
use Rattle.flow_model.specs.Lanes.{lane_of}
use Rattle.flow_model.specs.Replay.{Put, items_on}

-- The requests, from r on, whose row passes the test; the list has the row that each waits for,
-- which is the last one where there are fewer.
abbrev pub issued_where : (ℕ → Bool) → ℕ → ℕ → List ℕ → List Feed
issued_where test rows r [] = []
issued_where test rows r (after ∷ more) = if test (min after rows)
    then feed.Issued r ∷ issued_where test rows (r + 1) more
    else issued_where test rows (r + 1) more

-- the requests that are issued directly after this row
abbrev pub issued_after : ℕ → ℕ → ℕ → List ℕ → List Feed
issued_after row rows r afters = issued_where (λ after. after == row) rows r afters

-- the requests that are due before the first row is fed: those for a row up to this one
abbrev pub issued_at_first : ℕ → ℕ → ℕ → List ℕ → List Feed
issued_at_first row rows r afters = issued_where (λ after. nat_le after row) rows r afters

-- what the feeder does after this row, with `left` rows left
abbrev pub feed_after : List ℕ → ℕ → ℕ → ℕ → ℕ → List Feed
feed_after afters r row rows zero = feed.Stopped ∷ []
feed_after afters r row rows (suc left) = feed.Fed (row + 1) ∷
    (issued_after (row + 1) rows r afters ++ feed_after afters r (row + 1) rows left)

-- the feed of the rows that follow this one, if `issued` requests were issued before: each row in
-- order, each request directly after the row that it waits for, or at the front if that was fed
-- before, and then the end
abbrev pub feed_from : ℕ → ℕ → List ℕ → ℕ → List Feed
feed_from row issued afters rows =
    issued_at_first row rows (issued + 1) (drop issued afters)
    ++ feed_after (drop issued afters) (issued + 1) row rows (rows - row)

-- the row with this number; they are counted from 1
abbrev pub row_numbered : List Row → ℕ → Option Row
row_numbered rows zero = None
row_numbered rows (suc place) = slice_get rows place

-- the tuple of a row that is fed after `issued` requests were issued
abbrev pub fed_tuple : ℕ → Row → Tuple
fed_tuple issued row = record row.tuple { issued = issued }

-- the tuple goes on the lane of the one edge of its source
abbrev pub fed_put : JobView → ℕ → Option Row → List Put
fed_put job issued None = []
fed_put job issued (Some row) =
    record {
      lane = lane_of job None row.source 0 row.tuple;
      item = item.Carry (fed_tuple issued row);
    } ∷ []

-- what the feeder puts on its lanes, after `issued` requests were issued
abbrev pub fed_puts : JobView → List Row → ℕ → List Feed → List Put
fed_puts job rows issued [] = []
fed_puts job rows issued (feed.Fed number ∷ more) =
    fed_put job issued (row_numbered rows number) ++ fed_puts job rows issued more
fed_puts job rows issued (feed.Issued request ∷ more) = fed_puts job rows (issued + 1) more
fed_puts job rows issued (feed.Stopped ∷ more) = fed_puts job rows issued more

-- the tuples that a feed puts on a lane
abbrev pub fed : JobView → List Row → ℕ → Lane → List Feed → List Item
fed job rows issued lane feeds = items_on lane (fed_puts job rows issued feeds)
