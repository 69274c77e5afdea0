use Rattle.std.proofs.Common.{◌≡◌, map, take}
use Rattle.audit_laws.specs.Names.{named_workers}
use Rattle.audit_stream.specs.Sorting.{spelled}
use Rattle.audit_stream.proofs.workers.spelled_workers.Given as goal

abbrev pub invariant-loop-node : goal.invariant-loop-node
invariant-loop-node l = l.workers ≡ map spelled (named_workers (take l.node-index l.job.nodes))
