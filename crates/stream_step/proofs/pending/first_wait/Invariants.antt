use Rattle.std.proofs.Common.{◌≡◌, ◌<◌, ◌≤◌, drop}
use Rattle.stream_step.specs.Pending.{first_wait}
use Rattle.stream_step.proofs.pending.first_wait.Given as goal

-- the rest of the requests makes of the end so far what all of them make of the last row
abbrev pub invariant-loop-request : goal.invariant-loop-request
invariant-loop-request l = record {
  first : first_wait l.fed l.last l.requests
      ≡ first_wait l.fed l.end (drop l.request-index l.requests);
  later : l.fed < l.last → l.fed < l.end;
  within : l.end ≤ l.last;
}
