use Rattle.std.proofs.Common.{◌≡◌, take}
use Rattle.flow_model.specs.Waiting.{with_afters}
use Rattle.fries_verify.proofs.waits.with_afters.Given as goal

abbrev pub invariant-loop-place : goal.invariant-loop-place
invariant-loop-place l = l.requests.items ≡ with_afters (take l.place l.waits) l.fn.requests
