use Rattle.flow_runners.proofs.Fed.{fed_turn}
use Rattle.flow_runners.proofs.lead.feed.Goals as goal

pub returns-in-Done-clause-feeder : goal.returns-in-Done-clause-feeder
returns-in-Done-clause-feeder g c = fed_turn _ _ _ g.F.Feeding.kept c.turn.result _ _ _ _ _ _ c.loop.invariant.fed c.turn.ensures.turn c.turn.ensures.kept

pub returns-in-NoMemory-clause-feeder : goal.returns-in-NoMemory-clause-feeder
returns-in-NoMemory-clause-feeder g c = fed_turn _ _ _ g.F.Feeding.kept c.turn.result _ _ _ _ _ _ c.loop.invariant.fed c.turn.ensures.turn c.turn.ensures.kept

pub returns-in-Idle-clause-feeder : goal.returns-in-Idle-clause-feeder
returns-in-Idle-clause-feeder g c = fed_turn _ _ _ g.F.Feeding.kept c.turn.result _ _ _ _ _ _ c.loop.invariant.fed c.turn.ensures.turn c.turn.ensures.kept

pub loop-preserved : goal.loop-preserved
loop-preserved g c = record {
  fed = fed_turn _ _ _ g.F.Feeding.kept c.turn.result _ _ _ _ _ _ c.loop.invariant.fed c.turn.ensures.turn c.turn.ensures.kept;
  going = λ is. absurd (cc);
}
