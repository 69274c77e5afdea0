-- The function that is in force at a worker, by the place where it stands.
use Rattle.std.specs.Prelude.{ℕ, Option, Some, None, option_map, slice_get}
use Rattle.jobs.specs.declared.func.Func.{Func}
use Rattle.jobs.specs.declared.func.NodeDef.{NodeDef}
use Rattle.keyed_state.specs.Counts.{Counts, carried}
use Rattle.versions.specs.declared.request.Change.{Change}
use Rattle.versions.specs.declared.request.Request.{Request}
use Rattle.flow_model.specs.declared.in_force.InForce.{InForce}
use Rattle.flow_model.specs.declared.in_force.InForce.TheVariants.{Own, Changed}
use Rattle.flow_model.specs.SetupView.{SetupView}
use Rattle.flow_model.specs.Requests.{request_at}

abbrev pub change_at : Option Request → ℕ → Option Change
change_at None place = None
change_at (Some request) place = slice_get request.changes place

-- the function that stands there: the job's own of the node, or that of a change
abbrev pub func_in : SetupView → ℕ → InForce → Option Func
func_in setup node Own = option_map (λ (def : NodeDef). def.func) (slice_get setup.job.nodes node)
func_in setup node (Changed request place) = option_map (λ (change : Change). change.func)
    (change_at (request_at setup request) place)

-- the counts that a change carries over, if there is one
abbrev pub counts_with : Option Change → Counts → Counts
counts_with None counts = counts
counts_with (Some change) counts = carried change.carry counts
