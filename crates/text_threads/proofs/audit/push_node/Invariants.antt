use Rattle.std.proofs.Common.{◌≡◌, ◌++◌, drop}
use Rattle.sink_journal.specs.Audit.{workers_records}
use Rattle.text_threads.proofs.audit.push_node.Given as goal

abbrev pub invariant-loop-place : goal.invariant-loop-place
invariant-loop-place l =
    l.pieces ++ workers_records l.node l.place (drop l.place l.journals) (drop l.place l.states)
    ≡ l.fn.pieces ++ workers_records l.node 0 l.journals l.states
