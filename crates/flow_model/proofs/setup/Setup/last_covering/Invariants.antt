use Rattle.std.proofs.Common.{◌≡◌}
use Rattle.flow_model.specs.Begin.{last_after}
use Rattle.flow_model.specs.Setup.{setup_view}
use Rattle.flow_model.specs.Workers.{nth_worker}
use Rattle.flow_model.proofs.setup.Setup.last_covering.Given as goal

abbrev pub invariant-loop-before : goal.invariant-loop-before
invariant-loop-before l =
    l.last ≡ last_after (setup_view l.self) (nth_worker (setup_view l.self).job l.worker).node l.before
