use Rattle.std.proofs.lemmas.Result.{err_from_is_err_and}
use Rattle.flow_model.specs.Setup.{setup_view}
use Rattle.savepoint_file.proofs.ReadLemmas.{with-misplaced, with-placed}
use Rattle.savepoint_file.proofs.read.start_with.Goals as goal

pub returns-in_err-check_order-clause-fault : goal.returns-in_err-check_order-clause-fault
returns-in_err-check_order-clause-fault c =
    let p = err_from_is_err_and c.from_residual.result c.from_residual.ensures.1 in
    rw (p.1, p.2) (λ other spelled is.
    with-misplaced (setup_view c.args.setup.now).job c.args.row c.args.turned c.args.first c.args.counts.now spelled _ is c.in_err-check_order.ensures.fault)

pub returns-clause-ok : goal.returns-clause-ok
returns-clause-ok c spelled is =
    with-placed (setup_view c.args.setup.now).job c.args.row c.args.turned c.args.first c.args.counts.now spelled _ is c.in_ok-check_order.ensures.ok c.in_ok-states_of.ensures
