-- What a program has after it has run a part.
use Rattle.std.specs.Prelude.{◌≡◌, ◌≤◌, ◌++◌, All, List, length}
use Rattle.cover_planner.specs.declared.cover.Plan.{Plan}
use Rattle.tuple_trace.specs.Rows.{AreRows}
use Rattle.tuple_trace.specs.declared.row.Row.{Row}
use Rattle.versions.specs.declared.request.Request.{Request}
use Rattle.flow_model.specs.Planned.{extended}
use Rattle.flow_model.specs.Requests.{afters}
use Rattle.flow_model.specs.Run.{IsRunSince}
use Rattle.flow_model.specs.Setup.{setup_view}
use Rattle.savepoint.specs.Parts.{start_of}
use Rattle.stream_law.specs.Stream.{RunPart, SoFar}

-- New rows were run, with new requests and their plans after those so far. The run had other rows
-- in place of those so far, as many. Each request so far waits for the last of the rows so far or
-- an earlier one, and each new one for this row or a later one.
pub record IsPartRun (so_far : SoFar) (others new : List Row) (requests : List Request)
    (plans : List Plan) (part : RunPart) : Type 0 where
  pub setup_is : setup_view part.setup ≡ extended so_far.setup requests plans
  pub one_each : length so_far.setup.plans ≡ length so_far.setup.requests
  pub rows_are : part.rows ≡ so_far.rows ++ new
  pub numbered : AreRows part.rows
  pub as_many : length others ≡ length so_far.rows
  pub due : All (λ after. after ≤ length so_far.rows) (afters so_far.setup.requests)
  pub wait : All (λ after. length so_far.rows ≤ after) (afters requests)
  pub goes_on : IsRunSince (start_of (length so_far.rows) so_far.ran) (setup_view part.setup)
      (others ++ new) part.left
