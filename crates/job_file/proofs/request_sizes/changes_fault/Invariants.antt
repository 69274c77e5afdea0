use Rattle.std.proofs.Common.{◌≡◌, drop}
use Rattle.jobs.specs.Limits.{first_oversize}
use Rattle.job_file.specs.RequestSizes.{change_oversize}
use Rattle.job_file.proofs.request_sizes.changes_fault.Given as goal

abbrev pub invariant-loop-change : goal.invariant-loop-change
invariant-loop-change l = first_oversize change_oversize (drop l.change-index l.changes) ≡ first_oversize change_oversize l.changes
