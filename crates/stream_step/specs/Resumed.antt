-- A stream that goes on from its savepoint.
use Rattle.std.specs.Prelude.{◌≡◌, Bool, List}
use Rattle.jobs.specs.JobView.{JobView}
use Rattle.versions.specs.declared.request.Request.{Request}
use Rattle.flow_model.specs.Planned.{IsExactForStream}
use Rattle.flow_model.specs.SetupView.{SetupView}
use Rattle.flow_model.specs.Waiting.{waiting_for}
use Rattle.savepoint.specs.Parts.{first_of}
use Rattle.stream_save.specs.StreamText.{StreamSave}

-- The setup has the first of these requests, as many as the savepoint turned, and each waits for
-- the row that the savepoint has for it. Their plans and the mask of splits are those that a stream
-- makes for all these requests.
pub record IsResumed (job : JobView) (requests : List Request) (ordered : Bool)
    (save : StreamSave) (setup : SetupView) : Type 0 where
  pub whole : SetupView
  pub exact : IsExactForStream whole
  pub job_is : whole.job ≡ job
  pub requests_are : whole.requests ≡ requests
  pub ordered_is : whole.ordered ≡ ordered
  pub setup_is : setup ≡ waiting_for save.waits (first_of whole save.start.turned)
