use Rattle.std.proofs.Common.{◌≡◌}
use Rattle.flow_model.specs.Setup.{setup_view}
use Rattle.flow_model.specs.Duties.{dues_after}
use Rattle.flow_model.specs.Workers.{nth_worker}
use Rattle.flow_model.proofs.setup.Setup.due_after.Given as goal

abbrev pub invariant-loop-place : goal.invariant-loop-place
invariant-loop-place l =
    dues_after (setup_view l.self) l.last (nth_worker (setup_view l.self).job l.worker).node ≡ dues_after (setup_view l.self) l.place (nth_worker (setup_view l.self).job l.worker).node
