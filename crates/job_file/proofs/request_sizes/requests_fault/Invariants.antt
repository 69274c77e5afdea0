use Rattle.std.proofs.Common.{◌≡◌, drop}
use Rattle.jobs.specs.Limits.{first_oversize}
use Rattle.job_file.specs.RequestSizes.{request_oversize}
use Rattle.job_file.proofs.request_sizes.requests_fault.Given as goal

abbrev pub invariant-loop-request : goal.invariant-loop-request
invariant-loop-request l = first_oversize request_oversize (drop l.request-index l.requests) ≡ first_oversize request_oversize l.requests
