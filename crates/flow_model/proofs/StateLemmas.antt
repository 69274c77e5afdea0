-- What a worker's state makes of a tuple, in the words of the replay.
use Rattle.std.proofs.Common.{◌≡◌, ◌∙◌, ◌++◌, ℕ, List, sym, ap}
use Rattle.std.specs.Prelude.{slice_get}
use Rattle.jobs.specs.declared.func.Func.{Func}
use Rattle.keyed_state.specs.Counts.{Counts}
use Rattle.operators.specs.Meaning.{step}
use Rattle.operators.specs.declared.output.Output.{Output}
use Rattle.sink_journal.specs.declared.journal.Entry.TheVariants.{Met}
use Rattle.tuple_trace.specs.declared.tuple.Tuple.{Tuple}
use Rattle.tuple_trace.specs.declared.tuple.Visit.{Visit}
use Rattle.flow_model.specs.SetupView.{SetupView, Worker}
use Rattle.flow_model.specs.Replay.{visit_at}
use Rattle.flow_model.specs.WorkerState.{IsAfter, IsInForce, IsWorkerAt, func_at, made, state_view}
use Rattle.flow_model.specs.declared.topology.WorkerAt.{WorkerAt}
use Rattle.flow_model.specs.declared.worker_state.WorkerState.{WorkerState}
use Rattle.flow_model.proofs.WorkerLemmas.{worker_with}

abbrev pub visit_by : WorkerAt → ℕ → Visit
visit_by at last = record { node = at.node; worker = at.place; last = last }

its_func : (setup : SetupView) (at : WorkerAt) (who : Worker) (state : WorkerState) (f : Func) →
    IsWorkerAt setup.job at who → IsInForce setup at.node state.func f → f ≡ func_at setup who state.func
its_func setup at who state f is known =
    let (number, worker) = worker_with setup.job who.number who is.there in
    let node : at.node ≡ who.node = ap (λ (a : WorkerAt). a.node) is.at_is in
    known who worker.def (ap (slice_get setup.job.nodes) node ∙ worker.node_is) (sym node)
    worker.func_is

-- what the step makes with the visit and the function that the code hands in
same_step : (setup : SetupView) (at : WorkerAt) (who : Worker) (state : WorkerState) (f : Func)
    (tuple : Tuple) → IsWorkerAt setup.job at who → IsInForce setup at.node state.func f →
    step setup.job (visit_by at state.last) f state.counts tuple
    ≡ step setup.job (visit_at who (state_view setup who state)) (func_at setup who state.func)
    state.counts tuple
same_step setup at who state f tuple is known =
    ap (λ (a : WorkerAt). step setup.job (visit_by a state.last) f state.counts tuple) is.at_is
    ∙ ap (λ (g : Func).
    step setup.job (visit_at who (state_view setup who state)) g state.counts tuple)
    (its_func setup at who state f is known)

pub processed : (setup : SetupView) (at : WorkerAt) (state : WorkerState) (f : Func) (tuple : Tuple)
    (counts : Counts) → IsInForce setup at.node state.func f →
    counts ≡ (step setup.job (visit_by at state.last) f state.counts tuple).0 →
    (who : Worker) → IsWorkerAt setup.job at who → (lane : ℕ) →
    IsAfter setup who (Met lane tuple) state (record state { counts = counts })
processed setup at state f tuple counts known are who is lane =
    ap (λ (c : Counts). record (state_view setup who state) { counts = c })
    (are ∙ ap (λ (s : Counts × List Output). s.0)
    (same_step setup at who state f tuple is known))

pub came_out : (setup : SetupView) (at : WorkerAt) (state : WorkerState) (f : Func) (tuple : Tuple)
    (old new : List Output) → IsInForce setup at.node state.func f →
    new ≡ old ++ (step setup.job (visit_by at state.last) f state.counts tuple).1 →
    (who : Worker) → IsWorkerAt setup.job at who →
    new ≡ old ++ made setup who (state_view setup who state) tuple
came_out setup at state f tuple old new known are who is =
    are ∙ ap (λ (s : Counts × List Output). old ++ s.1)
    (same_step setup at who state f tuple is known)
