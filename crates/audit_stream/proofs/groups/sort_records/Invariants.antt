use Rattle.audit_stream.proofs.SortLemmas.{AreSortedTo}
use Rattle.audit_stream.proofs.groups.sort_records.Given as goal

abbrev pub invariant-loop-number : goal.invariant-loop-number
invariant-loop-number l = AreSortedTo l.workers l.stop l.fn.records l.records l.number l.texts
