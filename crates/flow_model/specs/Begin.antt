-- Where a run begins.
use Rattle.std.specs.Prelude.{ℕ, zero, suc, List, map, if◌then◌else◌}
use Rattle.std.specs.FinMap.{empty}
use Rattle.keyed_state.specs.Counts.{Counts}
use Rattle.flow_model.specs.SetupView.{SetupView, Worker}
use Rattle.flow_model.specs.Covers.{covers}
use Rattle.flow_model.specs.Replay.{StateView}
use Rattle.flow_model.specs.Requests.{func_after}
use Rattle.flow_model.specs.Workers.{workers_in}

-- A beginning: how many rows were fed and how many requests were turned before, and the counts of
-- each worker.
pub record Begin : Type 0 where
  pub row : ℕ
  pub turned : ℕ
  pub states : List Counts

-- the beginning of all: nothing was fed, nothing turned, nothing counted
abbrev pub at_first : SetupView → Begin
at_first setup = record {
  row = 0;
  turned = 0;
  states =
      map (λ (who : Worker). empty) (workers_in setup.job);
}

-- the latest of the first requests that covers a node, 0 where none does
abbrev pub last_after : SetupView → ℕ → ℕ → ℕ
last_after setup node zero = 0
last_after setup node (suc r) = if covers setup (suc r) node then suc r else last_after setup node r

-- what is in force at a worker with these counts that has turned the first requests
abbrev pub view_at : SetupView → ℕ → Worker → Counts → StateView
view_at setup turned who counts = record {
  func = func_after setup who.node who.func turned;
  counts = counts;
  last = last_after setup who.node turned;
  ended = 0;
}
