use Rattle.std.proofs.Common.{◌≡◌, drop}
use Rattle.jobs.specs.Limits.{first_oversize, literal_oversize}
use Rattle.jobs.proofs.limits.literals_fault.Given as goal

abbrev pub invariant-loop-cond : goal.invariant-loop-cond
invariant-loop-cond l = first_oversize literal_oversize (drop l.cond-index l.conds) ≡ first_oversize literal_oversize l.conds
