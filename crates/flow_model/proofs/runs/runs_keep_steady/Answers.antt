use Rattle.flow_model.proofs.SetupLemmas.{running}
use Rattle.flow_model.proofs.WorkerLawLemmas.{run_works}
use Rattle.flow_model.proofs.runs.runs_keep_steady.Goals as goal

pub returns : goal.returns
returns c rows ran graph w who journal are is same p j = run_works rows ran (running c.args.setup.now rows ran are is) graph same w who journal p j
