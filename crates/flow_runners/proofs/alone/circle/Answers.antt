use Rattle.std.proofs.Common.{◌∙◌, ap₂}
use Rattle.flow_runner.specs.Rule.{fixed_of}
use Rattle.flow_runner.proofs.Fixed.{same_marks}
use Rattle.flow_runners.proofs.Fed.{fed_more}
use Rattle.flow_runners.proofs.alone.circle.Goals as goal

pub loop-i-preserved : goal.loop-i-preserved
loop-i-preserved g c =
    let was = c.loop-i.invariant in let step = c.visit-turn.ensures in record {
      fixed = same_marks fixed_of _ _ _ _ c.index_mut.ensures.value (ap₂ (λ a b. (a, b)) step.number step.endpoints) ∙ was.fixed;
      fed = fed_more _ _ _ g.F.Feeding.kept _ _ _ _ _ _ was.fed c.feed_if-last.ensures.feeder;
      stopped = c.feed_if-last.ensures.done;
    }

pub returns-then-eq-clause-fixed : goal.returns-then-eq-clause-fixed
returns-then-eq-clause-fixed g c =
    let was = c.loop-i.invariant in let step = c.visit-turn.ensures in
    same_marks fixed_of _ _ _ _ c.index_mut.ensures.value (ap₂ (λ a b. (a, b)) step.number step.endpoints) ∙ was.fixed
