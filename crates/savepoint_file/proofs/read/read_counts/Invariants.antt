use Rattle.std.proofs.Common.{◌≡◌}
use Rattle.flow_model.specs.Setup.{setup_view}
use Rattle.savepoint_file.specs.Steps.{with_those_after, read_from}
use Rattle.savepoint_file.proofs.read.read_counts.Given as goal

abbrev pub invariant-loop-number : goal.invariant-loop-number
invariant-loop-number l =
    with_those_after l.counts (read_from (setup_view l.setup).job l.number l.records)
    ≡ read_from (setup_view l.setup).job l.first l.fn.records
