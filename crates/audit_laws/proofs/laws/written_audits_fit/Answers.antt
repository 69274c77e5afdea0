use Rattle.audit_laws.proofs.ReadBackLemmas.{written_fits}
use Rattle.audit_laws.proofs.laws.written_audits_fit.Goals as goal

pub returns : goal.returns
returns c refused ran = written_fits refused ran
