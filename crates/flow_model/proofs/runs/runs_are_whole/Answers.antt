use Rattle.flow_model.proofs.RunLemmas.{all_agreements}
use Rattle.flow_model.proofs.OnceLemmas.{met_once}
use Rattle.flow_model.proofs.SetupLemmas.{running}
use Rattle.flow_model.proofs.WholeLemmas.{one_sided, whole}
use Rattle.flow_model.proofs.runs.runs_are_whole.Goals as goal

pub returns-clause-whole : goal.returns-clause-whole
returns-clause-whole c rows ran are is request row = whole rows ran (running c.args.setup.now rows ran are is) request row

pub returns-clause-once : goal.returns-clause-once
returns-clause-once c rows ran are is node = met_once rows ran (running c.args.setup.now rows ran are is) node

pub returns-clause-asked : goal.returns-clause-asked
returns-clause-asked c rows ran are is request row = one_sided rows ran (running c.args.setup.now rows ran are is) request row

pub returns-clause-agreement : goal.returns-clause-agreement
returns-clause-agreement c rows ran are is = all_agreements rows ran (running c.args.setup.now rows ran are is)
