use Rattle.job_file.proofs.PartLemmas.{step_in-length}
use Rattle.job_file.proofs.steps.step_from.Goals as goal

pub returns-then-parts-ne4-clause-fault : goal.returns-then-parts-ne4-clause-fault
returns-then-parts-ne4-clause-fault c = step_in-length c.args.columns.now c.args.parts.now c.if-parts-ne4.true
