-- What contracts see of a feeder and of its boxes.
use Rattle.std.specs.Prelude.{ℕ, Bool, List, Option}
use Rattle.control_box.specs.Endpoints.{PosterIs}
use Rattle.lane_core.specs.Lane.{EndpointIs}
use Rattle.sink_journal.specs.declared.journal.Feed.{Feed}
use Rattle.tuple_trace.specs.declared.tuple.Tuple.{Tuple}

-- The boxes of all workers, in their order.
pub record BoxesIs : Type 0 where
  pub posters : List PosterIs
  -- for each worker, how many of the requests issued since the beginning cover it
  pub covered : List ℕ
  -- how many boxes, from the first, have shown that they are ready for the next request
  pub ready : ℕ

-- A feeder.
pub record FeederIs : Type 0 where
  -- its feed so far, its endpoints and its boxes
  pub feeds : List Feed
  pub outs : List EndpointIs
  pub boxes : BoxesIs
  -- how many rows were fed, and how many requests turned, before it began
  pub begin_row : ℕ
  pub begin_turned : ℕ
  -- how many rows are fed, requests issued and lanes ended
  pub row : ℕ
  pub issued : ℕ
  pub ended : ℕ
  pub stopped : Bool
  -- the tuple of the next row, if its lane was full
  pub held : Option Tuple
  -- for each lane of the job, how many earlier lanes begin at a source
  pub places : List ℕ
  -- which numbers of released requests were loaded: none by a feeder that isn't live
  pub loads : List ℕ
