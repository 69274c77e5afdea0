use Rattle.std.proofs.Common.{◌≢◌, ◌<◌, ℕ, Some, slice_get}
use Rattle.audit_laws.specs.Names.{named_workers}
use Rattle.audit_check.specs.Cells.{named_as}
use Rattle.audit_check.proofs.names.search.Given as goal

abbrev pub invariant-loop-worker : goal.invariant-loop-worker
invariant-loop-worker l = (w : ℕ) → w < l.worker → slice_get (named_workers l.setup.job.nodes) w ≢ Some (named_as l.node l.place)
