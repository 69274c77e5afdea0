use Rattle.job_file.proofs.PartLemmas.{carry_from-length}
use Rattle.job_file.proofs.carries.carry_with.Goals as goal

pub returns-clause-fault : goal.returns-clause-fault
returns-clause-fault c = carry_from-length c.args.parts.now c.if-parts-eq3.false c.if-parts-eq2.false
