use Rattle.std.proofs.Common.{◌≡◌, map}
use Rattle.savepoint.specs.Parts.{joined_journal}
use Rattle.flow_exact.proofs.trail.joined_journals.Given as goal

abbrev pub invariant-loop-one : goal.invariant-loop-one
invariant-loop-one l = l.journals ≡ map joined_journal l.yielded
