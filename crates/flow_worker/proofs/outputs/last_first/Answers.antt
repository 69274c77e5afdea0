use Rattle.std.proofs.Common.{◌≡◌, ◌∙◌, ◌≤◌, List, [], ◌∷◌, ap, arith, length, refl, reverse}
use Rattle.std.proofs.lemmas.List.{reverse-reverse}
use Rattle.operators.specs.declared.output.Output.{Output}
use Rattle.flow_worker.proofs.outputs.last_first.Goals as goal

-- one output alone is its own reverse
short_same : (outputs : List Output) → length outputs ≤ 1 → reverse outputs ≡ outputs
short_same [] h = refl
short_same (a ∷ []) h = refl
short_same (a ∷ b ∷ more) h = absurd (omega arith)

pub returns-else-len-gt1 : goal.returns-else-len-gt1
returns-else-len-gt1 c = short_same c.args.outputs.items (omega arith)

pub returns-then-len-gt1 : goal.returns-then-len-gt1
returns-then-len-gt1 c = ap reverse c.reverse.ensures.items ∙ reverse-reverse c.args.outputs.items
