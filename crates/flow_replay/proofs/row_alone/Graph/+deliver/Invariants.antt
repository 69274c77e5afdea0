use Rattle.std.proofs.Common.{◌≡◌, ◌-◌, ◌++◌, drop}
use Rattle.std.specs.Prelude.{slice_get}
use Rattle.std.specs.List.{flat_map}
use Rattle.jobs.specs.Job.{job_view}
use Rattle.flow_model.proofs.LandingLemmas.{behind}
use Rattle.flow_replay.proofs.row_alone.Graph.+deliver.Given as goal

abbrev pub decreases-deliver : goal.decreases-deliver
decreases-deliver l = l.self.nodes

-- what came to the sinks so far, followed by what becomes of the outputs that are left, is what
-- becomes of them all
abbrev pub invariant-loop-output : goal.invariant-loop-output
invariant-loop-output l =
    l.landings ++ flat_map (behind (job_view l.self.job.now) (slice_get l.self.table.now)
    (l.self.nodes - 1) l.node) (drop l.output-index l.output-items)
    ≡ l.fn.landings ++ flat_map (behind (job_view l.self.job.now) (slice_get l.self.table.now)
    (l.self.nodes - 1) l.node) l.output-items
