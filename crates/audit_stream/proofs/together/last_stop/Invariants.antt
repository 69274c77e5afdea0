use Rattle.audit_stream.proofs.ClosedLemmas.{AreReadTo}
use Rattle.audit_stream.proofs.together.last_stop.Given as goal

abbrev pub invariant-loop-number : goal.invariant-loop-number
invariant-loop-number l = AreReadTo l.fn.records l.records l.number l.stop
