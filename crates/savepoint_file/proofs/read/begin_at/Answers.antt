use Rattle.std.proofs.Common.{◌∙◌}
use Rattle.std.proofs.lemmas.Result.{IfErr-weaker, IfOk-weaker}
use Rattle.flow_model.specs.Setup.{setup_view}
use Rattle.savepoint_file.proofs.ReadLemmas.{at-order}
use Rattle.savepoint_file.proofs.read.begin_at.Goals as goal

pub returns-clause-ok : goal.returns-clause-ok
returns-clause-ok c =
    IfOk-weaker c.start_with.result _ _
    (λ start h spelled is. at-order (setup_view c.args.setup.now) c.args.rows c.args.row c.args.turned spelled c.if-row-rows.false (c.if-turned-issued.false ∙ c.issued_up_to-issued.ensures) ∙ h spelled is)
    c.start_with.ensures.ok

pub returns-clause-fault : goal.returns-clause-fault
returns-clause-fault c =
    IfErr-weaker c.start_with.result _ _
    (λ fault h other spelled is. at-order (setup_view c.args.setup.now) c.args.rows c.args.row c.args.turned spelled c.if-row-rows.false (c.if-turned-issued.false ∙ c.issued_up_to-issued.ensures) ∙ h other spelled is)
    c.start_with.ensures.fault
