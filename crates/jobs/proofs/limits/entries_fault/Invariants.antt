use Rattle.std.proofs.Common.{◌≡◌}
use Rattle.std.specs.FinMap as finite
use Rattle.jobs.specs.Limits.{entry_oversize, first_oversize}
use Rattle.jobs.proofs.limits.entries_fault.Given as goal

abbrev pub invariant-loop-text : goal.invariant-loop-text
invariant-loop-text l = first_oversize entry_oversize l.text-iterator ≡ first_oversize entry_oversize (finite.entries l.entries)
