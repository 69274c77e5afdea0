-- A run whose turns are over.
use Rattle.std.proofs.Common.{◌≡◌, ◌∙◌, ◌≤◌, ℕ, Bool, List, [], ◌∷◌, false, true, map, min, length, refl, sym, ap, subst, arith, Some, slice_get}
use Rattle.std.specs.List.{range_with_len}
use Rattle.std.proofs.lemmas.List.{length-map}
use Rattle.std.proofs.lemmas.Simd.{map-map}
use Rattle.std.proofs.lemmas.Option.{same_Some}
use Rattle.lane_core.specs.Lane.{EndIs, EndpointIs, LaneId, end_of}
use Rattle.jobs.specs.Nodes.{AreFromSources}
use Rattle.sink_journal.specs.declared.journal.Feed.{Feed}
use Rattle.tuple_trace.specs.declared.row.Row.{Row}
use Rattle.versions.specs.declared.request.Request.{Request}
use Rattle.flow_model.specs.Begin.{Begin, at_first}
use Rattle.flow_model.specs.Consistent.{IsConsistent}
use Rattle.flow_model.specs.Requests.{afters}
use Rattle.flow_model.specs.Run.{IsRun, IsRunSince, Ran}
use Rattle.flow_model.specs.Setup.{setup_view}
use Rattle.flow_model.specs.SetupView.{SetupView}
use Rattle.flow_model.specs.Waiting.{with_afters}
use Rattle.flow_model.specs.Workers.{workers_in}
use Rattle.flow_model.specs.declared.setup.Setup.{Setup}
use Rattle.flow_model.proofs.WaitingLemmas.{changes-with_afters}
use Rattle.flow_worker.specs.Endpoints.{LaneInIs, LaneOutIs}
use Rattle.flow_worker.specs.Pairs.{EachOne}
use Rattle.flow_worker.specs.Parts.{WorkedIs}
use Rattle.flow_worker.specs.Turning.{IsDone}
use Rattle.flow_worker.specs.Worker.{WorkerIs}
use Rattle.coordinator.specs.Feeding.{AreRising, IsFeeder, IsFeeding, issue_rows, waits}
use Rattle.coordinator.specs.Views.{FeederIs}
use Rattle.flow_runners.specs.Crew.{AreWorkers, fixed_in, crew_number}
use Rattle.flow_runner.specs.Runner.{EndpointsIs, end_in, end_out}
use Rattle.flow_crew.specs.Crews.{IsCrew}
use Rattle.flow_crew.specs.Ended.{IsOver, record_of, worked_of}
use Rattle.flow_crew.specs.Sides.{AreMatched, lane_ids, worker_side}
use Rattle.flow_runners.proofs.Crewing.{in_order}
use Rattle.coordinator.proofs.Recording.{all_issued, all_waited}
use Rattle.flow_engine.specs.Flown.{number_worked}
use Rattle.flow_engine.specs.Recorded.{IsRecorded, NoneIsEarly, recorded}
use Rattle.flow_engine.specs.inner.Turns.{AreWaits, HasRun, IsFirst}
use Rattle.flow_engine.proofs.Moving.{afters_are, feeding_moved}

-- ---- what no turn changes

-- the lanes of endpoints, with their numbers
abbrev lanes_in : EndpointsIs → List (LaneId × ℕ) × List (LaneId × ℕ)
lanes_in endpoints = (map (λ (end : EndIs). (end.lane, end.number)) endpoints.ins, map (λ (end : EndIs). (end.lane, end.number)) endpoints.outs)

lanes_so : (w : WorkerIs) → lane_ids w ≡ lanes_in (fixed_in w).1
lanes_so w =
    let at : EndIs → LaneId × ℕ = λ end. (end.lane, end.number) in
    let ins : map at (map end_in w.ins) ≡ map (λ (a : LaneInIs). (a.lane, a.number)) w.ins = map-map at end_in w.ins in
    let outs : map at (map end_out w.outs) ≡ map (λ (out : LaneOutIs). (out.lane, out.number)) w.outs = map-map at end_out w.outs in
    rw (ins, outs) refl

all_lanes : (ws : List WorkerIs) → map lane_ids ws ≡ map (λ (fixed : ℕ × EndpointsIs). lanes_in fixed.1) (map fixed_in ws)
all_lanes [] = refl
all_lanes (w ∷ ws) = rw (lanes_so w, all_lanes ws) refl

-- workers with the same endpoints are on the same lanes
pub same_lanes : (new old : List WorkerIs) → map fixed_in new ≡ map fixed_in old → map lane_ids new ≡ map lane_ids old
same_lanes new old same = all_lanes new ∙ ap (map (λ (fixed : ℕ × EndpointsIs). lanes_in fixed.1)) same ∙ sym (all_lanes old)

same_many : (new old : List WorkerIs) → map fixed_in new ≡ map fixed_in old → length new ≡ length old
same_many new old same = sym (length-map new fixed_in) ∙ (ap length same ∙ length-map old fixed_in)

-- ---- crews

-- a crew is made of workers in their order
pub to_workers : (setup : SetupView) (begin : Begin) (workers : List WorkerIs) → IsCrew setup begin workers → AreWorkers setup begin workers
to_workers setup begin workers crew = record { number = crew.number; law = crew.law }

-- and the workers that come back are a crew again
to_crew : (setup : SetupView) (begin : Begin) (new old : List WorkerIs) → map fixed_in new ≡ map fixed_in old → IsCrew setup begin old → AreWorkers setup begin new → IsCrew setup begin new
to_crew setup begin new old same crew are = record { many = same_many new old same ∙ crew.many; number = are.number; law = are.law }

-- a worker leaves its number
leaves_number : (ws : List WorkerIs) → map number_worked (map worked_of ws) ≡ map crew_number ws
leaves_number [] = refl
leaves_number (w ∷ ws) = ap (λ (ks : List ℕ). w.number ∷ ks) (leaves_number ws)

pub numbers_after : (setup : SetupView) (begin begun : Begin) (new old : List WorkerIs) (left : List WorkedIs) → map fixed_in new ≡ map fixed_in old → IsCrew setup begun old → AreWorkers setup begin new
    → left ≡ map worked_of new → map number_worked left ≡ range_with_len 0 (length (workers_in setup.job))
numbers_after setup begin begun new old left same crew are is =
    ap (map number_worked) is ∙ (leaves_number new ∙ (in_order new are.number ∙ ap (range_with_len 0) (same_many new old same ∙ crew.many)))

-- ---- the end of the turns

-- what was made for a run, and what its turns leave
pub record HasTurned (live : Bool) (setup : SetupView) (begin : Begin) (rows : List Row) (old new : List WorkerIs) (fed left : List EndpointIs) (feeds : List Feed) (f : FeederIs) : Type 0 where
  pub starts : length begin.states ≡ length (workers_in setup.job)
  pub first : live ≡ true → IsFirst begin
  pub crew : IsCrew setup begin old
  pub matched : AreMatched (map worker_side old) fed
  pub are : AreWorkers setup begin new
  pub done : EachOne IsDone new
  pub same : map fixed_in new ≡ map fixed_in old
  pub law : IsFeeder live setup begin rows f
  pub endpoints : map end_of f.outs ≡ map end_of fed
  pub stopped : f.stopped ≡ true
  pub feeds_are : feeds ≡ f.feeds
  pub outs_are : f.outs ≡ left

-- endpoints that matched still match, and workers read no rows that requests wait for
abbrev pub Stay : Type 0
Stay = (workers later : List WorkerIs) (outs left : List EndpointIs) → map lane_ids later ≡ map lane_ids workers → map end_of left ≡ map end_of outs
    → AreMatched (map worker_side workers) outs → AreMatched (map worker_side later) left

abbrev pub ReadNoRows : Type 0
ReadNoRows = (setup : SetupView) (begin : Begin) (requests : List Request) (workers : List WorkerIs) → map (λ (request : Request). request.changes) requests ≡ map (λ (request : Request). request.changes) setup.requests
    → IsCrew setup begin workers → IsCrew (record setup { requests = requests }) begin workers

pub job_recorded : (live : Bool) (feeds : List Feed) (setup : SetupView) → (recorded live feeds setup).job ≡ setup.job
job_recorded false feeds setup = refl
job_recorded true feeds setup = refl

module _ (setup : SetupView) (begin : Begin) (rows : List Row) (old new : List WorkerIs) (fed left : List EndpointIs) (feeds : List Feed) (f : FeederIs) where
  -- the rows of a live run
  pub waits_are : HasTurned true setup begin rows old new fed left feeds f → AreWaits (length rows) setup.requests (issue_rows 0 feeds)
  waits_are h =
      let first = h.first refl in
      let same : waits true setup (length rows) f ≡ issue_rows 0 feeds = all_waited setup begin rows f h.law first.0 first.1 h.stopped ∙ ap (issue_rows 0) (sym h.feeds_are) in
      record {
        one_each = ap (λ fs. length (issue_rows 0 fs)) h.feeds_are ∙ all_issued setup begin rows f h.law first.0 first.1 h.stopped;
        rising = subst (AreRising 0) same h.law.feeding.course.in_order;
        not_before = subst (λ ws. (place after waited : ℕ) → slice_get (afters setup.requests) place ≡ Some after → slice_get ws place ≡ Some waited → min after (length rows) ≤ waited) same h.law.not_before;
      }

  -- the law of the feeder, by the recorded setup
  feeding_recorded : (live : Bool) → HasTurned live setup begin rows old new fed left feeds f → IsFeeding (recorded live feeds setup) begin (afters (recorded live feeds setup).requests) rows f
  feeding_recorded false h = h.law.feeding
  feeding_recorded true h =
      let first = h.first refl in
      let are = waits_are h in
      let same : waits true setup (length rows) f ≡ issue_rows 0 feeds = all_waited setup begin rows f h.law first.0 first.1 h.stopped ∙ ap (issue_rows 0) (sym h.feeds_are) in
      subst (λ xs. IsFeeding (recorded true feeds setup) begin xs rows f) (same ∙ sym (afters_are (issue_rows 0 feeds) setup.requests are.one_each))
      (feeding_moved setup (with_afters (issue_rows 0 feeds) setup.requests) begin (waits true setup (length rows) f) rows f h.law.feeding)

  crew_recorded : (live : Bool) → ReadNoRows → IsCrew setup begin new → IsCrew (recorded live feeds setup) begin new
  crew_recorded false read crew = crew
  crew_recorded true read crew = read setup begin (with_afters (issue_rows 0 feeds) setup.requests) new (changes-with_afters (issue_rows 0 feeds) setup.requests) crew

  starts_recorded : (live : Bool) → length begin.states ≡ length (workers_in setup.job) → length begin.states ≡ length (workers_in (recorded live feeds setup).job)
  starts_recorded false e = e
  starts_recorded true e = e

  -- the turns of a run from its beginning on are over
  pub are_over : (live : Bool) → Stay → ReadNoRows → HasTurned live setup begin rows old new fed left feeds f → IsOver (recorded live feeds setup) begin rows new feeds left
  are_over live stay read h = record {
    starts = starts_recorded live h.starts;
    crew = crew_recorded live read (to_crew setup begin new old h.same h.crew h.are);
    done = h.done;
    matched = stay old new fed left (same_lanes new old h.same) (ap (map end_of) (sym h.outs_are) ∙ h.endpoints) h.matched;
    feeder = f;
    feeding = feeding_recorded live h;
    stopped = h.stopped;
    feeds_are = h.feeds_are;
    outs_are = sym h.outs_are;
  }

  -- what they leave
  pub has_run : (live : Bool) (crew : List WorkedIs) → HasTurned live setup begin rows old new fed left feeds f → crew ≡ map worked_of new
      → IsRunSince begin (recorded live feeds setup) rows (record_of (recorded live feeds setup) feeds crew) → HasRun live begin setup rows feeds crew
  has_run live crew h are run = record {
    crew_is = numbers_after setup begin begin new old crew h.same h.crew h.are are;
    waits = λ e. waits_are (subst (λ b. HasTurned b setup begin rows old new fed left feeds f) e h);
    run = run;
  }

  -- the same of the feed as the end of the run hands it on
  pub has_run_so : (live : Bool) (crew : List WorkedIs) (handed : List Feed) → HasTurned live setup begin rows old new fed left feeds f → handed ≡ feeds → crew ≡ map worked_of new
      → IsRunSince begin (recorded live feeds setup) rows (record_of (recorded live feeds setup) handed crew) → HasRun live begin setup rows handed crew
  has_run_so live crew handed h same are run =
      subst (λ (fs : List Feed). HasRun live begin setup rows fs crew) (sym same)
      (has_run live crew h are (subst (λ (fs : List Feed). IsRunSince begin (recorded live feeds setup) rows (record_of (recorded live feeds setup) fs crew)) same run))

-- ---- what a record says of its requests

none_early : (rows : ℕ) (asked : List Request) (waits : List ℕ) → AreWaits rows asked waits → NoneIsEarly rows asked (with_afters waits asked)
none_early rows asked waits are = λ place after waited g h. are.not_before place after waited g (ap (λ (l : List ℕ). slice_get l place) (sym (afters_are waits asked are.one_each)) ∙ h)

none_early_alone : (rows : ℕ) (asked : List Request) → NoneIsEarly rows asked asked
none_early_alone rows asked place after waited g h = (let e = same_Some after waited (sym g ∙ h) in omega (arith, e))

pub waits_recorded : (live : Bool) (begin : Begin) (rows : List Row) (feeds : List Feed) (crew : List WorkedIs) (asked made : Setup) → HasRun live begin (setup_view asked) rows feeds crew → IsRecorded live feeds asked made
    → NoneIsEarly (length rows) (setup_view asked).requests (setup_view made).requests
waits_recorded false begin rows feeds crew asked made h is =
    subst (λ (s : Setup). NoneIsEarly (length rows) (setup_view asked).requests (setup_view s).requests) (sym is) (none_early_alone (length rows) (setup_view asked).requests)
waits_recorded true begin rows feeds crew asked made h is =
    subst (λ (v : SetupView). NoneIsEarly (length rows) (setup_view asked).requests v.requests) (sym is.0) (none_early (length rows) (setup_view asked).requests (issue_rows 0 feeds) (h.waits refl))

-- the recorded setup, as code has it
pub view_recorded : (live : Bool) (feeds : List Feed) (asked made : Setup) → IsRecorded live feeds asked made → setup_view made ≡ recorded live feeds (setup_view asked)
view_recorded false feeds asked made is = ap setup_view is
view_recorded true feeds asked made is = is.0

pub run_recorded : (live : Bool) (begin : Begin) (rows : List Row) (feeds : List Feed) (crew : List WorkedIs) (asked made : Setup) → HasRun live begin (setup_view asked) rows feeds crew → IsRecorded live feeds asked made
    → IsRunSince begin (setup_view made) rows (record_of (setup_view made) feeds crew)
run_recorded live begin rows feeds crew asked made h is =
    subst (λ (v : SetupView). IsRunSince begin v rows (record_of v feeds crew)) (sym (view_recorded live feeds asked made is)) h.run

-- what a run leaves is consistent, if all runs of the recorded setup are
pub consistent_recorded : (live : Bool) (rows : List Row) (feeds : List Feed) (crew : List WorkedIs) (asked made : Setup) → HasRun live (at_first (setup_view asked)) (setup_view asked) rows feeds crew → IsRecorded live feeds asked made
    → AreFromSources (setup_view asked).job rows → ((ran : Ran) → IsRun (setup_view made) rows ran → AreFromSources (setup_view made).job rows → IsConsistent rows ran)
    → IsConsistent rows (record_of (setup_view made) feeds crew)
consistent_recorded false rows feeds crew asked made h is sources law =
    law (record_of (setup_view made) feeds crew)
    (subst (λ (s : Setup). IsRun (setup_view s) rows (record_of (setup_view s) feeds crew)) (sym is) h.run)
    (subst (λ (s : Setup). AreFromSources (setup_view s).job rows) (sym is) sources)
consistent_recorded true rows feeds crew asked made h is sources law =
    law (record_of (setup_view made) feeds crew)
    (subst (λ (v : SetupView). IsRun v rows (record_of v feeds crew)) (sym is.0) h.run)
    (subst (λ (v : SetupView). AreFromSources v.job rows) (sym is.0) sources)
