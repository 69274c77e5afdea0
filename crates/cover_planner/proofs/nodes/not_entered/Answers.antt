use Rattle.std.proofs.Common.{◌<◌, ◌^◌, arith}
use Rattle.flow_dag.proofs.MaskLemmas.{Has-below}
use Rattle.cover_planner.proofs.nodes.not_entered.Goals as goal

pub returns : goal.returns
returns c a =
    let fits : c.args.nodes < 2 ^ 64 = omega arith in (
      λ h. ((c.loop-a.invariant a).0 h).1,
      λ (n, none). let lt : a < 64 = Has-below 64 c.args.nodes a fits n in (c.loop-a.invariant a).1 (omega arith, (n, none)),
    )
