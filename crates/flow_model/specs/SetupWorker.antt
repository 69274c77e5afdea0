-- A worker of a setup, as one value.
use Rattle.flow_model.specs.SetupView.{SetupView, Worker}
use Rattle.flow_model.specs.Setup.{setup_view}
use Rattle.flow_model.specs.Workers.{nth_worker}
use Rattle.flow_model.specs.declared.setup_worker.SetupWorker.{SetupWorker}

-- its setup
abbrev pub setup_here : SetupWorker → SetupView
setup_here who = setup_view who.setup.now

-- the worker that it stands for
abbrev pub who_here : SetupWorker → Worker
who_here who = nth_worker (setup_here who).job who.number
