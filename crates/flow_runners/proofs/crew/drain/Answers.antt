use Rattle.std.proofs.Common.{ap, rules}
use Rattle.flow_runner.specs.declared.rule.Tally.{Tally}
use Rattle.flow_runners.proofs.Uniting.{taken}
use Rattle.flow_runners.proofs.crew.drain.Goals as goal

pub loop-preserved : goal.loop-preserved
loop-preserved g c =
    let was = c.loop.invariant in let took = c.in-Some-take.ensures in record {
      queue = c.take.ensures.queue;
      parts = search rules;
      listed = taken g.C.Charter.endpoints _ _ _ _ _ c.in-Some-take.runner c.reserve.ensures.items c.push_reserved.ensures.items (ap (λ (h : Tally). h.list) took.some) took.agrees was.listed;
    }
