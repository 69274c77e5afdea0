use Rattle.std.proofs.Common.{◌≡◌, take}
use Rattle.flow_model.specs.Requests.{afters}
use Rattle.stream_run.proofs.save.waits_of.Given as goal

abbrev pub invariant-loop-request : goal.invariant-loop-request
invariant-loop-request l = l.waits ≡ afters (take l.request-index l.requests)
