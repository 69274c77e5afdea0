use Rattle.std.proofs.Common.{◌≡◌, ◌++◌, map}
use Rattle.audit_laws.specs.Names.{named_at}
use Rattle.audit_stream.specs.Sorting.{spelled}
use Rattle.audit_stream.proofs.workers.push_node.Given as goal

abbrev pub invariant-loop-place : goal.invariant-loop-place
invariant-loop-place l = l.workers ≡ l.fn.workers ++ map spelled (named_at l.node.name 0 l.place)
