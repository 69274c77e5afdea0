-- Setups as code has them.
use Rattle.jobs.specs.Job.{job_view}
use Rattle.flow_model.specs.declared.setup.Setup.{Setup}
use Rattle.flow_model.specs.SetupView.{SetupView, setup_view_of}

-- a setup, as the definitions see it
abbrev pub setup_view : Setup → SetupView
setup_view setup =
    setup_view_of (job_view setup.job) setup.judged.accepted setup.plans setup.splits setup.ordered
