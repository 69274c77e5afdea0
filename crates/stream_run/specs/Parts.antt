-- What a stream has run, part by part.
use Rattle.std.specs.Prelude.{◌≡◌, ◌≤◌, ◌+◌, ◌++◌, ℕ, All, List, [], ◌∷◌, Option, None, Some}
use Rattle.std.specs.Prelude.{length, map}
use Rattle.jobs.specs.Job.{job_view}
use Rattle.tuple_trace.specs.declared.row.Row.{Row}
use Rattle.versions.specs.declared.request.Request.{Request}
use Rattle.flow_model.specs.Begin.{Begin, at_first}
use Rattle.flow_model.specs.Planned.{IsFollowed}
use Rattle.flow_model.specs.Requests.{afters}
use Rattle.flow_model.specs.Run.{IsRunSince, Ran}
use Rattle.flow_model.specs.Setup.{setup_view}
use Rattle.flow_model.specs.SetupView.{SetupView}
use Rattle.flow_model.specs.declared.setup.Setup.{Setup}
use Rattle.savepoint.specs.Parts.{start_of}
use Rattle.stream_law.specs.Stream.{SoFar, with_part}
use Rattle.stream_step.specs.Parts.{HasRun, due_in, first_part, left_by_parts}
use Rattle.stream_step.specs.Pending.{AreAsked, lifted}
use Rattle.stream_step.specs.declared.stream.Stream.{Stream}

-- The stream goes on from where this has ended: from the beginning of all if it is nothing.
abbrev pub HasCome : Stream → Option SoFar → Type 0
HasCome stream None = stream.start ≡ at_first (setup_view stream.setup)
HasCome stream (Some so_far) = HasRun stream so_far

-- A part that was run: its setup, the rows that it fed, and what it left.
pub record Part : Type 0 where
  pub setup : Setup
  pub rows : List Row
  pub left : Ran

-- what was run before, and then the part
abbrev pub with_one : Option SoFar → Part → SoFar
with_one None part = first_part part.setup part.rows part.left
with_one (Some so_far) part =
    with_part so_far
    (record { setup = part.setup; rows = so_far.rows ++ part.rows; left = part.left })

-- what was run before, and then these parts
abbrev pub with_all : Option SoFar → List Part → Option SoFar
with_all before [] = before
with_all before (part ∷ later) = with_all (Some (with_one before part)) later

-- All accepted requests, as they were asked, stay those of the stream; and so do its job, the nodes
-- that may be splits, and whether it is exact.
pub record KeepsAsked (old new : Stream) : Type 0 where
  pub asked : (all : List Request)
      → AreAsked (job_view old.setup.job) old.setup.judged.accepted old.pending all
      → AreAsked (job_view new.setup.job) new.setup.judged.accepted new.pending all
  pub job_is : job_view new.setup.job ≡ job_view old.setup.job
  pub splits_are : new.setup.splits ≡ old.setup.splits
  pub exact_is : new.exact ≡ old.exact

-- A part up to row `last` issued the requests that ask for a row up to there, each after the last
-- row that was fed before it, or after the later row that it asks for. In an exact stream, a part
-- with rows issued none. The others stay pending.
pub record IssuesUpTo (old : Stream) (last : ℕ) (new : Stream) : Type 0 where
  pub issued : new.setup.judged.accepted
      ≡ old.setup.judged.accepted ++ map (lifted old.start.row) (due_in old last)
  pub left : new.pending ≡ left_by_parts old last

-- ---- each part by itself

-- Where a stream goes on: its setup, with the requests that were issued so far, and the beginning
-- of its next part.
pub record Front : Type 0 where
  pub setup : SetupView
  pub start : Begin

abbrev pub front_of : Stream → Front
front_of stream = record { setup = setup_view stream.setup; start = stream.start }

-- where it goes on after a part
abbrev pub front_after : Front → Part → Front
front_after front part = record {
  setup = setup_view part.setup;
  start = start_of (front.start.row + length part.rows) part.left;
}

-- A part was run from there, with these requests after those that were issued. Each waits for the
-- last row that was fed, or for a row of the part. The run had other rows in place of those that
-- were fed, as many.
pub record IsRunAt (front : Front) (part : Part) : Type 0 where
  pub requests : List Request
  pub others : List Row
  pub followed : IsFollowed front.setup requests (setup_view part.setup)
  pub wait : All (λ after. front.start.row ≤ after) (afters requests)
  pub due : All (λ after. after ≤ front.start.row + length part.rows) (afters requests)
  pub as_many : length others ≡ front.start.row
  pub run : IsRunSince front.start (setup_view part.setup) (others ++ part.rows) part.left

-- from the first front to the last one, each part was run from where the one before it has ended
abbrev pub AreRunInTurn : Front → List Part → Front → Type 0
AreRunInTurn front [] last = last ≡ front
AreRunInTurn front (part ∷ later) last =
    IsRunAt front part × AreRunInTurn (front_after front part) later last

-- ---- all parts

-- From the first stream to the second, these parts were run, each from where the one before it has
-- ended. Whatever the first has come from, the second goes on from that and then these parts.
pub record HaveRun (begin : Stream) (parts : List Part) (stream : Stream) : Type 0 where
  pub in_turn : AreRunInTurn (front_of begin) parts (front_of stream)
  pub as_one : (before : Option SoFar) → HasCome begin before
      → HasCome stream (with_all before parts)
