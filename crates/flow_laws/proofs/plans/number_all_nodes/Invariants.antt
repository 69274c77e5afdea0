use Rattle.std.proofs.Common.{All, take}
use Rattle.flow_laws.specs.Determined.{NumbersAllNodes}
use Rattle.flow_laws.proofs.plans.number_all_nodes.Given as goal

abbrev pub invariant-loop-plan : goal.invariant-loop-plan
invariant-loop-plan l = All NumbersAllNodes (take l.plan-index l.plans)
