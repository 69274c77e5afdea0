-- What a stream has run, and what a part of it is.
use Rattle.std.specs.Prelude.{◌≡◌, ◌⊎◌, ◌≤◌, ℕ, All, IfSome, List, [], drop}
use Rattle.std.specs.Prelude.{length, take}
use Rattle.cover_planner.specs.declared.cover.Plan.{Plan}
use Rattle.jobs.specs.Nodes.{AreFromSources}
use Rattle.tuple_trace.specs.Rows.{AreRows}
use Rattle.tuple_trace.specs.declared.row.Row.{Row}
use Rattle.versions.specs.declared.request.Request.{Request}
use Rattle.flow_model.specs.Planned.{IsFollowed}
use Rattle.flow_model.specs.Requests.{afters}
use Rattle.flow_model.specs.Run.{IsRunSince, Ran}
use Rattle.flow_model.specs.Setup.{setup_view}
use Rattle.flow_model.specs.declared.setup.Setup.{Setup}
use Rattle.savepoint.specs.Parts.{start_of}
use Rattle.stream_law.specs.PartRun.{IsPartRun}
use Rattle.stream_law.specs.Stream.{IsRunSoFar, RunPart, SoFar, with_part}
use Rattle.stream_law.specs.Border.{AreExactAfter}
use Rattle.stream_step.specs.Pending.{issued_by, kept_by}
use Rattle.stream_step.specs.declared.stream.Stream.{Stream}

-- ---- what was run so far

-- The stream goes on from where this has ended: one run of numbered rows from sources of the job,
-- under the stream's setup. If the stream is exact, so are the borders since it began to be.
pub record HasRun (stream : Stream) (so_far : SoFar) : Type 0 where
  pub run : IsRunSoFar so_far
  pub numbered : AreRows so_far.rows
  pub sources : AreFromSources so_far.setup.job so_far.rows
  pub setup_is : so_far.setup ≡ setup_view stream.setup
  pub start_is : stream.start ≡ start_of (length so_far.rows) so_far.ran
  pub exact : IfSome stream.exact (λ base. AreExactAfter base so_far)

-- ---- a part

-- the pending requests that a part up to this row issues
abbrev pub due_in : Stream → ℕ → List Request
due_in stream last = issued_by stream.exact stream.start.row last stream.pending

-- those that it leaves
abbrev pub left_by_parts : Stream → ℕ → List Request
left_by_parts stream last = kept_by stream.exact stream.start.row last stream.pending

-- a part has no row after this one, or it issues no request
abbrev pub IsBetweenRows : ℕ → List Request → List Row → Type 0
IsBetweenRows fed requests rows = (length rows ≡ fed) ⊎ (requests ≡ [])

-- A part was run from where the stream goes on, with these requests after those of the stream. Of
-- `rows`, it fed those that the stream hadn't fed.
pub record IsRunOn (stream : Stream) (requests : List Request) (rows : List Row) (setup : Setup)
    (left : Ran) : Type 0 where
  pub within : stream.start.row ≤ length rows
  pub numbered : AreRows rows
  pub sources : AreFromSources (setup_view stream.setup).job rows
  pub wait : All (λ after. stream.start.row ≤ after) (afters requests)
  pub followed : IsFollowed (setup_view stream.setup) requests (setup_view setup)
  pub run : IsRunSince stream.start (setup_view setup) rows left

-- The part goes on from all so far, with the rows after those so far. All so far and the part are
-- one run of numbered rows from sources of the job.
pub record IsPartAfter (so_far : SoFar) (requests : List Request) (rows : List Row)
    (setup : Setup) (left : Ran) (part : RunPart) : Type 0 where
  pub setup_is : part.setup ≡ setup
  pub left_is : part.left ≡ left
  pub plans : List Plan
  pub is_run : IsPartRun so_far (take (length so_far.rows) rows) (drop (length so_far.rows) rows)
      requests plans part
  pub one_run : IsRunSoFar (with_part so_far part)
  pub numbered : AreRows (with_part so_far part).rows
  pub sources : AreFromSources (with_part so_far part).setup.job (with_part so_far part).rows
  pub borders : (base : ℕ) → IsBetweenRows (length so_far.rows) requests rows
      → AreExactAfter base so_far → AreExactAfter base (with_part so_far part)

-- the first part, as all so far
abbrev pub first_part : Setup → List Row → Ran → SoFar
first_part setup rows left = record { setup = setup_view setup; rows = rows; ran = left }

-- the first part is one run of numbered rows from sources of the job
pub record IsFirstRun (requests : List Request) (setup : Setup) (rows : List Row) (left : Ran)
    : Type 0 where
  pub run : IsRunSoFar (first_part setup rows left)
  pub borders : (base : ℕ) → IsBetweenRows 0 requests rows
      → AreExactAfter base (first_part setup rows left)
  pub numbered : AreRows rows
  pub sources : AreFromSources (setup_view setup).job rows
