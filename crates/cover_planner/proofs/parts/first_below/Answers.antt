use Rattle.std.proofs.Common.{rules}
use Rattle.std.proofs.lemmas.Iterator.{first_from_Range}
use Rattle.flow_dag.specs.Masks.{Has}
use Rattle.flow_dag.proofs.FirstLemmas.{first_least}
use Rattle.cover_planner.proofs.parts.first_below.Goals as goal

pub returns : goal.returns
returns c =
    first_least (Has c.args.mask) c.args.a c.find.result
    (first_from_Range _ _ _ c.find.result (Has c.args.mask) (λ b. Has c.args.mask b → ⊥) c.find.ensures.ran
    (λ x q k. search rules) (λ x q k. search rules))
