-- The state of a worker at a start.
use Rattle.std.proofs.Common.{◌≡◌, ◌∙◌, ◌<◌, ℕ, Some, length, subst, sym, ap}
use Rattle.std.proofs.lemmas.Option.{same_Some}
use Rattle.jobs.specs.declared.func.Func.{Func}
use Rattle.keyed_state.specs.Counts.{Counts}
use Rattle.flow_model.specs.Begin.{Begin, last_after}
use Rattle.flow_model.specs.InForce.{func_in}
use Rattle.flow_model.specs.Replay.{StateView}
use Rattle.flow_model.specs.Requests.{func_after}
use Rattle.flow_model.specs.SetupView.{SetupView, Worker}
use Rattle.flow_model.specs.WorkerState.{found_or, func_at, state_view}
use Rattle.flow_model.specs.Workers.{nth_worker, workers_in}
use Rattle.flow_model.specs.declared.in_force.InForce.{InForce}
use Rattle.flow_model.specs.declared.in_force.InForce.TheVariants.{Own, Changed}
use Rattle.flow_model.proofs.WorkerPlaces.{own_func}
use Rattle.flow_replay.specs.Sent.{begun_counts, begun_view}

-- the function that stands there is the worker's
func_there : (setup : SetupView) (who : Worker) (at : InForce) (func : Func) →
    func_in setup who.node Own ≡ Some who.func → func_in setup who.node at ≡ Some func →
    func_at setup who at ≡ func
func_there setup who Own func own is = same_Some who.func func (sym own ∙ is)
func_there setup who (Changed request place) func own is = ap (found_or who.func) is

pub begins : (setup : SetupView) (begin : Begin) (w node turned last : ℕ) (at : InForce)
    (counts : Counts) → w < length (workers_in setup.job) →
    node ≡ (nth_worker setup.job w).node → turned ≡ begin.turned →
    ((func : Func) → func_in setup node Own ≡ Some func →
    func_in setup node at ≡ Some (func_after setup node func turned)) →
    last ≡ last_after setup (nth_worker setup.job w).node turned →
    counts ≡ begun_counts begin w →
    state_view setup (nth_worker setup.job w)
    (record { func = at; counts = counts; last = last; ended = 0 })
    ≡ begun_view setup begin w
begins setup begin w node turned last at counts there stands from funcs latest begun =
    ap (λ (g : Func). viewed g counts last) func
    ∙ (ap (λ (c : Counts). viewed (func_after setup who.node who.func begin.turned) c last) begun
    ∙ ap (viewed (func_after setup who.node who.func begin.turned) (begun_counts begin w))
    (latest ∙ ap (last_after setup who.node) from))
  where
    who : Worker
    who = nth_worker setup.job w

    viewed : Func → Counts → ℕ → StateView
    viewed func counts' last' =
        record { func = func; counts = counts'; last = last'; ended = 0 }

    put : func_in setup who.node at ≡ Some (func_after setup who.node who.func turned)
    put = subst (λ (n : ℕ). func_in setup n Own ≡ Some who.func →
        func_in setup n at ≡ Some (func_after setup n who.func turned)) stands
        (funcs who.func) (own_func setup w there)

    func : func_at setup who at ≡ func_after setup who.node who.func begin.turned
    func =
        func_there setup who at (func_after setup who.node who.func turned)
        (own_func setup w there) put
        ∙ ap (func_after setup who.node who.func) from
