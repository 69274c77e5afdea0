use Rattle.std.proofs.Common.{◌∙◌}
use Rattle.flow_runners.proofs.Fed.{fed_more}
use Rattle.flow_runners.proofs.lead.lead.Goals as goal

pub returns-in-End-clause-feeder : goal.returns-in-End-clause-feeder
returns-in-End-clause-feeder g c = fed_more _ _ _ g.F.Feeding.kept _ _ _ _ _ _ c.loop.invariant.fed c.feed-fed.ensures.feeder

pub loop-preserved-in-Moved : goal.loop-preserved-in-Moved
loop-preserved-in-Moved g c = record {
  queue = c.step-one.ensures.queue;
  parts = c.step-one.ensures.part ∙ c.loop.invariant.parts;
  listed = c.step-one.ensures.listed;
  fed = fed_more _ _ _ g.F.Feeding.kept _ _ _ _ _ _ c.loop.invariant.fed c.feed-fed.ensures.feeder;
}

pub loop-preserved-in-Idle : goal.loop-preserved-in-Idle
loop-preserved-in-Idle g c = record {
  queue = c.step-one.ensures.queue;
  parts = c.step-one.ensures.part ∙ c.loop.invariant.parts;
  listed = c.step-one.ensures.listed;
  fed = fed_more _ _ _ g.F.Feeding.kept _ _ _ _ _ _ c.loop.invariant.fed c.feed-fed.ensures.feeder;
}

pub loop-preserved : goal.loop-preserved
loop-preserved g c = record {
  queue = c.step-one.ensures.queue;
  parts = c.step-one.ensures.part ∙ c.loop.invariant.parts;
  listed = c.step-one.ensures.listed;
  fed = fed_more _ _ _ g.F.Feeding.kept _ _ _ _ _ _ c.loop.invariant.fed c.feed-fed.ensures.feeder;
}
