use Rattle.std.proofs.lemmas.Result.{IfOk-weaker}
use Rattle.flow_model.specs.Setup.{setup_view}
use Rattle.flow_worker.proofs.Beginning.{state_at}
use Rattle.flow_worker.proofs.worker.Worker.make_from.Goals as goal

pub returns-clause-law : goal.returns-clause-law
returns-clause-law g c =
    let setup = setup_view c.args.who.setup.now in
    let start = c.args.start in
    IfOk-weaker c.begin.result _ _ (λ w law begin from.
    law begin (state_at setup begin c.args.who.number c.node.result start.turned c.last_covering.result c.in_force_after.result start.counts c.args.who.there from.counts_are from.turned_is
    c.node.ensures.at c.in_force_after.ensures c.last_covering.ensures))
    c.begin.ensures.law
