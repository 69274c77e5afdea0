use Rattle.std.proofs.Common.{◌≡◌, take}
use Rattle.jobs.specs.Nodes.{worker_count}
use Rattle.flow_model.proofs.tables.first_worker.Given as goal

abbrev pub invariant-loop-def : goal.invariant-loop-def
invariant-loop-def l = l.first ≡ worker_count (take l.def-index l.job.nodes)
