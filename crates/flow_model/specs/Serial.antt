-- One order of rows and requests.
use Rattle.std.specs.Prelude.{◌≡◌, ◌<◌, ◌≤◌, ℕ, zero, suc, false, List, Option, Some, None, length}
use Rattle.std.specs.Prelude.{slice_get, if◌then◌else◌}
use Rattle.std.specs.List.{flat_map}
use Rattle.jobs.specs.declared.func.Func.{Func}
use Rattle.jobs.specs.declared.func.NodeDef.{NodeDef}
use Rattle.tuple_trace.specs.declared.row.Row.{Row}
use Rattle.flow_model.specs.declared.landing.Landing.{Landing}
use Rattle.flow_model.specs.Alone.{alone}
use Rattle.flow_model.specs.OneTable.{AreSameItems, landings}
use Rattle.flow_model.specs.SetupView.{SetupView}
use Rattle.flow_model.specs.Requests.{func_after}
use Rattle.flow_model.specs.Run.{Ran}
use Rattle.flow_model.specs.Whole.{is_new, is_old}

-- the row comes behind the first k requests and before all later ones: it is not old at the one,
-- and not new at the other
pub record SeesPrefix (ran : Ran) (row k : ℕ) : Type 0 where
  pub before : (r : ℕ) → r ≤ k → is_old ran r row ≡ false
  pub after : (r : ℕ) → k < r → is_new ran r row ≡ false

-- the greatest of the first r requests at which the row is new, 0 if it is new at none
abbrev pub newest : Ran → ℕ → ℕ → ℕ
newest ran row zero = 0
newest ran row (suc r) = if is_new ran (suc r) row then suc r else newest ran row r

-- the place of a row among the requests: behind the greatest at which it is new
abbrev pub serial : Ran → ℕ → ℕ
serial ran row = newest ran row (length ran.setup.requests)

-- the function of a node after the first k requests; none without a node
abbrev pub func_of_node : SetupView → ℕ → ℕ → Option NodeDef → Option Func
func_of_node setup k node None = None
func_of_node setup k node (Some def) = Some (func_after setup node def.func k)

-- the functions after the first k requests
abbrev pub funcs_after : SetupView → ℕ → ℕ → Option Func
funcs_after setup k node = func_of_node setup k node (slice_get setup.job.nodes node)

-- what these rows make by themselves, each with the functions after the requests that it comes
-- behind
abbrev pub landings_in_order : Ran → List Row → List Landing
landings_in_order ran rows = flat_map (λ (row : Row). alone ran.setup.job
    (funcs_after ran.setup (serial ran row.tuple.row)) row) rows

-- what came to the sinks is what the rows make by themselves in the order of rows and requests
abbrev pub IsSerial : List Row → Ran → Type 0
IsSerial rows ran = AreSameItems (landings ran) (landings_in_order ran rows)
