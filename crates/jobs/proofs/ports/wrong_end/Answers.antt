use Rattle.std.proofs.Common.{rules}
use Rattle.std.proofs.lemmas.List.Elements.{All-more}
use Rattle.flow_dag.specs.Edges.{IsInside}
use Rattle.jobs.proofs.ports.wrong_end.Goals as goal

pub loop-i-preserved : goal.loop-i-preserved
loop-i-preserved c =
    All-more (IsInside c.args.count) c.args.edges.now c.loop-i.i (record { from = 0; port = 0; to = 0 }) c.loop-i-test.true c.loop-i.invariant (search rules)
