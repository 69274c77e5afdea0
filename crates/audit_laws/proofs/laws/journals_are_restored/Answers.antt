use Rattle.flow_model.specs.Setup.{setup_view}
use Rattle.audit_laws.proofs.WorkerLemmas.{worker_restored}
use Rattle.audit_laws.proofs.laws.journals_are_restored.Goals as goal

pub returns : goal.returns
returns c begin rows journals w who journal there law agree = worker_restored begin (setup_view c.args.setup.now) rows journals w who journal there law agree
