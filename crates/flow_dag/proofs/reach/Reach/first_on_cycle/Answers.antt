use Rattle.std.proofs.Common.{rules}
use Rattle.std.proofs.lemmas.Iterator.{first_from_Range}
use Rattle.flow_dag.specs.Rows.{RowHas}
use Rattle.flow_dag.proofs.FirstLemmas.{first_least}
use Rattle.flow_dag.proofs.reach.Reach.first_on_cycle.Goals as goal

pub returns : goal.returns
returns c =
    first_least (λ a. RowHas c.args.self.now.below a a) c.args.n c.find.result
    (first_from_Range _ _ _ c.find.result (λ a. RowHas c.args.self.now.below a a) (λ a. RowHas c.args.self.now.below a a → ⊥) c.find.ensures.ran
    (λ x q k. search rules) (λ x q k. search rules))
