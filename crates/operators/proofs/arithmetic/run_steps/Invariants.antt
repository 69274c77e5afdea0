use Rattle.std.proofs.Common.{◌≡◌, take}
use Rattle.operators.specs.Arithmetic.{after_steps}
use Rattle.operators.proofs.arithmetic.run_steps.Given as goal

abbrev pub invariant-loop-step : goal.invariant-loop-step
invariant-loop-step l = l.fields ≡ after_steps l.columns l.initial.fields (take l.step-index l.steps)
