use Rattle.std.proofs.Common.{ap, arith, length}
use Rattle.flow_model.specs.Begin.{Begin}
use Rattle.flow_model.specs.Setup.{setup_view}
use Rattle.flow_model.proofs.StartLemmas.{states_first}
use Rattle.flow_model.proofs.WorkerListLemmas.{length-workers_from}
use Rattle.stream_run.proofs.texts.PartTexts.of_part.Goals as goal

pub audit_part_text-requires-clause-states : goal.audit_part_text-requires-clause-states
audit_part_text-requires-clause-states c =
    omega (
      arith,
      ap (λ (b : Begin). length b.states) c.in_ok-none.ensures,
      ap (λ (b : Begin). length b.states) c.none.view_is,
      states_first (setup_view c.args.ran.now.setup),
      length-workers_from 0 0 c.args.ran.now.setup.job.nodes,
    )
