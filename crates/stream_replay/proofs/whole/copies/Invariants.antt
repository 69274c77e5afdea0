use Rattle.std.proofs.Common.{◌≡◌, take}
use Rattle.stream_replay.proofs.whole.copies.Given as goal

abbrev pub invariant-loop-request : goal.invariant-loop-request
invariant-loop-request l = l.copies ≡ take l.request-index l.requests
