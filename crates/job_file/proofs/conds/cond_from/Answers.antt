use Rattle.job_file.proofs.PartLemmas.{cond_in-length}
use Rattle.job_file.proofs.conds.cond_from.Goals as goal

pub returns-then-parts-ne3-clause-fault : goal.returns-then-parts-ne3-clause-fault
returns-then-parts-ne3-clause-fault c _ = cond_in-length c.args.columns.now c.args.parts.now c.if-parts-ne3.true
