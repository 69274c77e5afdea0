-- What the types of a setup and of rows keep is all that the laws use of a run.
use Rattle.std.proofs.Common.{List, refl, sym, subst}
use Rattle.jobs.specs.Job.{job_view}
use Rattle.tuple_trace.specs.Rows.{AreRows}
use Rattle.tuple_trace.specs.declared.row.Row.{Row}
use Rattle.versions.specs.Kept.{AreInOrder, KeepKinds}
use Rattle.versions.proofs.KeptLemmas.{accepted-kept, accepted-order}
use Rattle.flow_model.specs.SetupView.{SetupView}
use Rattle.flow_model.specs.Begin.{at_first}
use Rattle.flow_model.specs.Run.{IsRun, IsRunFrom, Ran}
use Rattle.flow_model.specs.Setup.{setup_view}
use Rattle.flow_model.specs.declared.setup.Setup.{Setup}
use Rattle.flow_model.proofs.JobLemmas.{IsConnected, connected}
use Rattle.flow_model.proofs.PlannedLemmas.{HasCovers, has_covers}
use Rattle.flow_model.proofs.RunLemmas.{Running}

-- what is kept of an outline
record SetupKeeps (setup : SetupView) : Type 0 where
  connected_job : IsConnected setup.job
  covers : HasCovers setup
  kinds : KeepKinds setup.job setup.requests
  order : AreInOrder 0 setup.requests

-- the requests of a setup stand in the order of the rows that they wait for
pub in_order : (setup : Setup) → AreInOrder 0 (setup_view setup).requests
in_order setup = accepted-order (job_view setup.job) setup.judged.accepted setup.accepted

kept_view : (setup : Setup) → SetupKeeps (setup_view setup)
kept_view setup = record {
  connected_job = connected (job_view setup.job) setup.job.dag setup.job.lawful refl setup.job.drawn;
  covers = has_covers (setup_view setup) setup.planned;
  kinds = accepted-kept (job_view setup.job) setup.judged.accepted setup.accepted;
  order = in_order setup;
}

pub running : (setup : Setup) (rows : List Row) (ran : Ran) → AreRows rows → IsRun (setup_view setup) rows ran → Running rows ran
running setup rows ran are is =
    let kept : SetupKeeps ran.setup = subst SetupKeeps (sym is.setup_is) (kept_view setup) in
    let run : IsRunFrom (at_first ran.setup) rows ran = subst (λ (s : SetupView). IsRunFrom (at_first s) rows ran) (sym is.setup_is) is.run in
    record { connected = kept.connected_job; kept = kept.covers; kinds = kept.kinds; order = kept.order; rows_are = are; run = run }
