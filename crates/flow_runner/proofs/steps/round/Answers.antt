use Rattle.std.proofs.Common.{rules, ◌∙◌, ap₂}
use Rattle.std.proofs.lemmas.List.Elements.{AllWithin-more_set}
use Rattle.flow_runner.specs.Rule.{fixed_of, HasEnded}
use Rattle.flow_runner.proofs.Fixed.{same_marks}
use Rattle.flow_runner.proofs.steps.round.Goals as goal

pub loop-i-preserved : goal.loop-i-preserved
loop-i-preserved g c =
    let was = c.loop-i.invariant in let step = c.visit-turn.ensures in record {
      seats = same_marks fixed_of _ _ _ _ c.index_mut.ensures.value (ap₂ (λ a b. (a, b)) step.number step.endpoints) ∙ was.seats;
      finished = λ h. let b = c.both-whole.ensures h in AllWithin-more_set c.loop-i.kept.items c.loop-i.i c.visit-turn.new.self (search rules) HasEnded (was.finished b.0) (step.done b.1);
    }
