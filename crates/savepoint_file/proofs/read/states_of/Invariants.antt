use Rattle.std.proofs.Common.{◌≡◌, map, take}
use Rattle.flow_model.specs.Setup.{setup_view}
use Rattle.flow_model.specs.Workers.{workers_in}
use Rattle.savepoint.specs.SaveReading.{counts_at}
use Rattle.savepoint_file.specs.Steps.{there}
use Rattle.savepoint_file.proofs.read.states_of.Given as goal

abbrev pub invariant-loop-count : goal.invariant-loop-count
invariant-loop-count l =
    l.states.items ≡ map (counts_at (there (take l.count-index l.counts))) (workers_in (setup_view l.setup).job)
