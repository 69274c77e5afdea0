use Rattle.std.proofs.Common.{◌≡◌, ◌++◌, drop}
use Rattle.flow_model.specs.SetupWorker.{setup_here}
use Rattle.flow_replay.proofs.WorkerRunLemmas.{marks_of}
use Rattle.flow_replay.proofs.worker_run.mark.Given as goal

abbrev pub invariant-loop-number : goal.invariant-loop-number
invariant-loop-number l =
    l.journal ++ marks_of (setup_here l.who) l.request (drop l.number-index l.number-items)
    ≡ l.fn.journal ++ marks_of (setup_here l.who) l.request l.number-items
