use Rattle.flow_replay.proofs.WorkerRunLemmas.{HaveEnded}
use Rattle.flow_replay.proofs.worker_run.WorkerRun.end.Given as goal

abbrev pub invariant-loop-number : goal.invariant-loop-number
invariant-loop-number l = HaveEnded l.number-index l.number-items l.fn.self l.self
