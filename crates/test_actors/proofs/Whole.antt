-- A run that is over, of the workers and the feeder that were made.
use Rattle.std.proofs.Common.{◌≡◌, ◌∙◌, ℕ, List, false, true, sym, ap, length, map, slice_get}
use Rattle.std.specs.FinMap.{empty}
use Rattle.std.proofs.lemmas.List.{length-map}
use Rattle.sink_journal.specs.declared.journal.Feed.{Feed}
use Rattle.tuple_trace.specs.declared.row.Row.{Row}
use Rattle.flow_model.specs.Begin.{Begin, at_first}
use Rattle.flow_model.specs.SetupView.{SetupView, Worker as WorkerOf}
use Rattle.flow_model.specs.Workers.{workers_in}
use Rattle.flow_worker.specs.Endpoints.{LaneInIs, LaneOutIs, SameIn, SameOut}
use Rattle.flow_worker.specs.Pairs.{EachOne}
use Rattle.flow_worker.specs.Turning.{IsDone, SameEndpoints}
use Rattle.flow_worker.specs.Worker.{IsWorker, WorkerIs}
use Rattle.flow_model.proofs.PlaceLemmas.{map_place}
use Rattle.sink_journal.proofs.SmallLemmas.{get_mapped}
use Rattle.flow_worker.proofs.Pairs.{pairs_keep}
use Rattle.coordinator.specs.Feeding.{IsFeeder}
use Rattle.coordinator.specs.Views.{FeederIs}
use Rattle.lane_core.specs.Lane.{EndpointIs, end_of}
use Rattle.flow_crew.specs.Crews.{IsCrew}
use Rattle.flow_crew.specs.Ended.{IsOver}
use Rattle.flow_crew.specs.Sides.{AreMatched, lane_ids, worker_side}
use Rattle.flow_crew.proofs.Matching.{matched_again}
use Rattle.flow_crew.proofs.Sorting.{each_got, each_placed}

-- a turn keeps a worker's lanes
pub same_lanes : (w v : WorkerIs) → SameEndpoints w v → lane_ids v ≡ lane_ids w
same_lanes w v same = λ i. (
  pairs_keep SameIn (λ (a : LaneInIs). (a.lane, a.number)) w.ins v.ins (λ x y s j. (s.0 j, s.1 j)) same.ins i,
  pairs_keep SameOut (λ (a : LaneOutIs). (a.lane, a.number)) w.outs v.outs (λ x y s j. (s.0 j, s.1 j)) same.outs i,
)

pub each_law : (setup : SetupView) (begin : Begin) (workers : List WorkerIs) → IsCrew setup begin workers → EachOne (IsWorker setup begin) workers
each_law setup begin workers crew = each_placed (IsWorker setup begin) workers crew.law

pub still_crew : (setup : SetupView) (begin : Begin) (workers later : List WorkerIs) → IsCrew setup begin workers → EachOne (IsWorker setup begin) later → map (λ (w : WorkerIs). w.number) later ≡ map (λ (w : WorkerIs). w.number) workers
    → IsCrew setup begin later
still_crew setup begin workers later crew law same = record {
  many =
      sym (length-map later (λ (w : WorkerIs). w.number))
      ∙ (ap (λ (l : List ℕ). length l) same ∙ (length-map workers (λ (w : WorkerIs). w.number) ∙ crew.many));
  number = λ k w g.
      let there = ap (λ (l : List ℕ). slice_get l k) (sym same) ∙ get_mapped (λ (w : WorkerIs). w.number) later k w g in
      let (u, at, e) = map_place (λ (w : WorkerIs). w.number) workers k w.number there in
      e ∙ crew.number k u at;
  law = λ k w g. each_got (IsWorker setup begin) later k w law g;
}

pub over : (setup : SetupView) (rows : List Row) (workers later : List WorkerIs) (outs left : List EndpointIs) (feeder f : FeederIs) (feeds : List Feed) → IsCrew setup (at_first setup) workers → AreMatched (map worker_side workers) outs → feeder.outs ≡ outs
    → EachOne (IsWorker setup (at_first setup)) later → EachOne IsDone later → map (λ (w : WorkerIs). w.number) later ≡ map (λ (w : WorkerIs). w.number) workers → map lane_ids later ≡ map lane_ids workers
    → IsFeeder false setup (at_first setup) rows f → f.stopped ≡ true → map end_of f.outs ≡ map end_of feeder.outs → feeds ≡ f.feeds → f.outs ≡ left → IsOver setup (at_first setup) rows later feeds left
over setup rows workers later outs left feeder f feeds crew matched fed laws done number lanes law stopped endpoints feeds_are outs_are = record {
  starts = length-map (workers_in setup.job) (λ (post : WorkerOf). empty);
  crew = still_crew setup (at_first setup) workers later crew laws number;
  done = done;
  matched = matched_again workers later outs left lanes (ap (map end_of) (sym outs_are) ∙ (endpoints ∙ ap (map end_of) fed)) matched;
  feeder = f;
  feeding = law.feeding;
  stopped = stopped;
  feeds_are = feeds_are;
  outs_are = sym outs_are;
}
