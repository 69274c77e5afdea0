use Rattle.std.proofs.Common.{◌≡◌, drop}
use Rattle.std.specs.Prelude.{find}
use Rattle.jobs.specs.Kinds.{has_name}
use Rattle.jobs.proofs.kind.first_named.Given as goal

abbrev pub invariant-loop-kind : goal.invariant-loop-kind
invariant-loop-kind l = find (has_name l.word) (drop l.kind-index l.kinds) ≡ find (has_name l.word) l.kinds
