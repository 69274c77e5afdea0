use Rattle.std.proofs.Common.{◌≡◌, ℕ, ◌↔◌, ◌<◌, ◌^◌, ◌++◌, List, length, take}
use Rattle.std.specs.Prelude.{IsTrue}
use Rattle.std.specs.List.{list_any}
use Rattle.cover_planner.specs.declared.cover.Plan.{Plan}
use Rattle.flow_dag.specs.Masks.{Has}
use Rattle.jobs.specs.Job.{job_view}
use Rattle.flow_model.specs.Planned.{ArePlansFrom, names_node}
use Rattle.flow_model.proofs.plans.plans_after.Given as goal

abbrev pub invariant-loop-request : goal.invariant-loop-request
invariant-loop-request l = record {
  plans : (old : List Plan) → length old ≡ length l.earlier → ArePlansFrom (length l.earlier) (job_view l.job) l.splits l.ordered (l.earlier ++ take l.request-index l.later) (old ++ l.plans);
  has : (node : ℕ) → Has l.so_far node ↔ IsTrue (list_any (names_node node) (l.earlier ++ take l.request-index l.later));
  below : l.so_far < 2 ^ length l.job.nodes;
}
