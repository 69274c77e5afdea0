-- What finished workers, a feeder that has stopped and settled lanes leave is a run.
use Rattle.std.proofs.Common.{◌≡◌, ◌∙◌, ◌<◌, ℕ, List, [], ◌++◌, refl, sym, ap, subst, arith, length, map, Option, Some, None, slice_get}
use Rattle.std.specs.Prelude.{IfSome}
use Rattle.std.proofs.lemmas.List.{append-nil, length-map}
use Rattle.std.proofs.lemmas.Option.{same_Some}
use Rattle.jobs.specs.JobView.{JobView}
use Rattle.keyed_state.specs.Counts.{Counts}
use Rattle.marker_align.specs.declared.held.Hand.TheVariants.{Empty}
use Rattle.sink_journal.specs.declared.journal.Entry.{Entry}
use Rattle.sink_journal.specs.declared.journal.Feed.{Feed}
use Rattle.tuple_trace.specs.declared.row.Row.{Row}
use Rattle.flow_model.specs.Begin.{Begin, view_at}
use Rattle.flow_model.specs.Lanes.{lanes}
use Rattle.flow_model.specs.declared.topology.Lane.{Lane}
use Rattle.flow_model.specs.SetupView.{SetupView, Worker as WorkerOf}
use Rattle.flow_model.specs.Replay.{items_sent, shown}
use Rattle.flow_model.specs.Requests.{afters}
use Rattle.flow_model.specs.Run.{IsFinishedFrom, IsRunSince, IsWorked, Ran, final_counts, put_by, sent_by}
use Rattle.flow_model.specs.Workers.{workers_in}
use Rattle.flow_model.proofs.WorkerLemmas.{item_at}
use Rattle.flow_worker.specs.Endpoints.{LaneInIs, LaneOutIs, in_hand, planned}
use Rattle.flow_worker.specs.Parts.{WorkedIs, endpoint_in, endpoint_out}
use Rattle.lane_core.specs.Lane.{EndpointIs}
use Rattle.flow_worker.specs.Turning.{IsDone}
use Rattle.flow_worker.specs.Worker.{IsWorker, Sends, ShowsTaken, WorkerIs}
use Rattle.flow_model.proofs.PlaceLemmas.{map_place}
use Rattle.sink_journal.proofs.SmallLemmas.{get_mapped}
use Rattle.coordinator.specs.Conservation.{AreFinished}
use Rattle.coordinator.proofs.Meaning.{puts}
use Rattle.coordinator.proofs.Conserving.{lane_conserved}
use Rattle.flow_crew.specs.Ended.{IsOver, record_of, worked_of}
use Rattle.flow_crew.specs.Sides.{AreSettled, ins_at, IsAmong, IsSettled, outs_at, side_ins, side_outs, SideIs, worker_side}
use Rattle.flow_crew.proofs.Sorting.{each_got, lane_sender}

-- ---- an endpoint of a worker's side

pub in_lane : (workers : List WorkerIs) (w : ℕ) (worker : WorkerIs) (x : EndpointIs) → slice_get workers w ≡ Some worker → IsAmong (ins_at w (map worker_side workers)) x
    → (k : ℕ) × (a : LaneInIs) × (slice_get worker.ins k ≡ Some a) × (x ≡ endpoint_in a)
in_lane workers w worker x g (k, h) =
    let there : slice_get (map endpoint_in worker.ins) k ≡ Some x = ap (λ (o : Option SideIs). slice_get (side_ins o) k) (sym (get_mapped worker_side workers w worker g)) ∙ h in
    let (a, at, e) = map_place endpoint_in worker.ins k x there in
    (k, a, at, e)

pub out_lane : (workers : List WorkerIs) (fed : List EndpointIs) (w : ℕ) (worker : WorkerIs) (x : EndpointIs) → slice_get workers w ≡ Some worker → IsAmong (outs_at (Some w) (map worker_side workers) fed) x
    → (k : ℕ) × (out : LaneOutIs) × (slice_get worker.outs k ≡ Some out) × (x ≡ endpoint_out out)
out_lane workers fed w worker x g (k, h) =
    let there : slice_get (map endpoint_out worker.outs) k ≡ Some x = ap (λ (o : Option SideIs). slice_get (side_outs o) k) (sym (get_mapped worker_side workers w worker g)) ∙ h in
    let (out, at, e) = map_place endpoint_out worker.outs k x there in
    (k, out, at, e)

module _ (setup : SetupView) (begin : Begin) (rows : List Row) (workers : List WorkerIs) (feeds : List Feed) (outs : List EndpointIs) (over : IsOver setup begin rows workers feeds outs) where
  -- ---- a worker

  -- what is known of the worker with a number
  record IsAt (w : ℕ) (worker : WorkerIs) (who : WorkerOf) (counts : Counts) : Type 0 where
    there : slice_get workers w ≡ Some worker
    law : IsWorker setup begin worker
    who_is : slice_get (workers_in setup.job) w ≡ Some who
    same_who : law.who ≡ who
    begun_is : slice_get begin.states w ≡ Some counts
    same_counts : law.begun ≡ counts
    done : IsDone worker

  worker_at : (w : ℕ) (worker : WorkerIs) → slice_get workers w ≡ Some worker → (who : WorkerOf) × (counts : Counts) × IsAt w worker who counts
  worker_at w worker g =
      let law = over.crew.law w worker g in
      let number = over.crew.number w worker g in (
        law.who,
        law.begun,
        record {
          there = g;
          law = law;
          who_is = ap (slice_get (workers_in setup.job)) (sym number) ∙ law.placed.stands.who_is;
          same_who = refl;
          begun_is = ap (slice_get begin.states) (sym number) ∙ law.begun_is;
          same_counts = refl;
          done = each_got IsDone workers w worker over.done g;
        },
      )

  -- ---- the record

  abbrev ran : Ran
  ran = record_of setup feeds (map worked_of workers)

  of_journal : (w : ℕ) (journal : List Entry) → slice_get ran.journals w ≡ Some journal → (worker : WorkerIs) × (slice_get workers w ≡ Some worker) × (journal ≡ worker.journal)
  of_journal w journal g =
      let (worked, at, e) = map_place (λ (x : WorkedIs). x.journal) (map worked_of workers) w journal g in
      let (worker, there, f) = map_place worked_of workers w worked at in
      (worker, there, e ∙ ap (λ (x : WorkedIs). x.journal) f)

  of_state : (w : ℕ) (worker : WorkerIs) (state : Counts) → slice_get workers w ≡ Some worker → slice_get ran.states w ≡ Some state → state ≡ worker.counts
  of_state w worker state g h =
      same_Some state worker.counts (sym h ∙ get_mapped (λ (x : WorkedIs). x.state) (map worked_of workers) w (worked_of worker) (get_mapped worked_of workers w worker g))

  at_journal : (w : ℕ) (worker : WorkerIs) → slice_get workers w ≡ Some worker → slice_get ran.journals w ≡ Some worker.journal
  at_journal w worker g = get_mapped (λ (x : WorkedIs). x.journal) (map worked_of workers) w (worked_of worker) (get_mapped worked_of workers w worker g)

  all_finished : AreFinished begin ran
  all_finished w who journal at g =
      let (worker, there, e) = of_journal w journal g in
      let (p, counts, is) = worker_at w worker there in
      let same : is.law.who ≡ who = is.same_who ∙ same_Some p who (sym is.who_is ∙ at) in
      subst (IsFinishedFrom setup begin who) (sym e) (subst (λ (q : WorkerOf). IsFinishedFrom setup begin q worker.journal) same (is.law.closing.finished is.done.0))

  all_worked : (w : ℕ) (who : WorkerOf) (counts : Counts) (journal : List Entry) (state : Counts) → slice_get (workers_in setup.job) w ≡ Some who → slice_get begin.states w ≡ Some counts → slice_get ran.journals w ≡ Some journal → slice_get ran.states w ≡ Some state
      → IsWorked setup begin who counts journal state
  all_worked w who counts journal state at begun g h =
      let (worker, there, e) = of_journal w journal g in
      let (p, c, is) = worker_at w worker there in
      let same_who : is.law.who ≡ who = is.same_who ∙ same_Some p who (sym is.who_is ∙ at) in
      let same_counts : is.law.begun ≡ counts = is.same_counts ∙ same_Some c counts (sym is.begun_is ∙ begun) in
      record {
        finished = all_finished w who journal at g;
        state_is =
            of_state w worker state there h
            ∙ (is.law.view.counts_is
            ∙ (ap (λ (q : WorkerOf). final_counts setup begin q is.law.begun worker.journal) same_who
            ∙ (ap (λ (d : Counts). final_counts setup begin who d worker.journal) same_counts ∙ ap (final_counts setup begin who counts) (sym e))));
      }

  -- ---- a lane

  module _ (n : ℕ) (lane : Lane) (at : slice_get (lanes setup.job) n ≡ Some lane) (s : IsSettled (map worker_side workers) outs n lane) where
    taken : (journal : List Entry) → slice_get ran.journals lane.receiver ≡ Some journal → s.rx.items ≡ shown setup n journal
    taken journal g =
        let (worker, there, e) = of_journal lane.receiver journal g in
        let (who, counts, is) = worker_at lane.receiver worker there in
        let (k, a, among, x) = in_lane workers lane.receiver worker s.rx there s.receiver in
        let takes = each_got (ShowsTaken setup worker.journal) worker.ins k a is.law.taken.takes among in
        let empty = each_got (λ (b : LaneInIs). b.hand ≡ Empty) worker.ins k a (is.law.closing.put_down is.done.0) among in
        let number : a.number ≡ n = ap (λ (y : EndpointIs). y.number) (sym x) ∙ s.rx_number in
        ap (λ (y : EndpointIs). y.items) x
        ∙ (takes ∙ (ap (λ h. shown setup a.number worker.journal ++ in_hand h) empty
        ∙ (append-nil (shown setup a.number worker.journal) ∙ (ap (λ m. shown setup m worker.journal) number ∙ ap (shown setup n) (sym e)))))

    put_by_worker : (w : ℕ) (worker : WorkerIs) → slice_get workers w ≡ Some worker → IsAmong (outs_at (Some w) (map worker_side workers) outs) s.tx
        → sent_by setup begin lane (slice_get (workers_in setup.job) w) (slice_get begin.states w) (slice_get ran.journals w) ≡ Some s.tx.items
    put_by_worker w worker there among =
        let (who, counts, is) = worker_at w worker there in
        let (k, out, at_out, x) = out_lane workers outs w worker s.tx there among in
        let number : out.number ≡ n = ap (λ (y : EndpointIs). y.number) (sym x) ∙ s.tx_number in
        let sends = each_got (Sends setup begin is.law.who is.law.begun worker.journal) worker.outs k out is.law.sent.sends at_out lane (ap (slice_get (lanes setup.job)) number ∙ at) in
        let none = each_got (λ (o : LaneOutIs). o.waiting ≡ []) worker.outs k out is.done.1 at_out in
        let all : planned out ≡ out.sent = ap (λ l. out.sent ++ l) none ∙ append-nil out.sent in
        let items : items_sent setup is.law.who (view_at setup begin.turned is.law.who is.law.begun) lane worker.journal ≡ s.tx.items = sym sends ∙ (all ∙ ap (λ (y : EndpointIs). y.items) (sym x)) in
        ap (λ (o : Option WorkerOf). sent_by setup begin lane o (slice_get begin.states w) (slice_get ran.journals w)) (is.who_is ∙ ap Some (sym is.same_who))
        ∙ (ap (λ (o : Option Counts). sent_by setup begin lane (Some is.law.who) o (slice_get ran.journals w)) (is.begun_is ∙ ap Some (sym is.same_counts))
        ∙ (ap (λ (o : Option (List Entry)). sent_by setup begin lane (Some is.law.who) (Some is.law.begun) o) (at_journal w worker there) ∙ ap Some items))

    put_by_feeder : IsAmong outs s.tx → put_by begin rows ran lane lane.sender ≡ Some s.tx.items
    put_by_feeder (k, h) =
        let (other, numbered, put) = puts setup begin (afters setup.requests) rows over.feeder ran over.feeding over.stopped refl over.feeds_are k s.tx (ap (λ l. slice_get l k) (sym over.outs_are) ∙ h) in
        let same : other ≡ lane = same_Some other lane (sym numbered ∙ (ap (slice_get (lanes setup.job)) s.tx_number ∙ at)) in
        ap (λ (l : Lane). put_by begin rows ran l l.sender) (sym same) ∙ put

    put : put_by begin rows ran lane lane.sender ≡ Some s.tx.items
    put = go lane.sender refl (lane_sender setup.job n lane at) s.sender
      where
        go : (sender : Option ℕ) → lane.sender ≡ sender → IfSome sender (λ w. w < length (workers_in setup.job)) → IsAmong (outs_at sender (map worker_side workers) outs) s.tx
            → put_by begin rows ran lane lane.sender ≡ Some s.tx.items
        go None e lt among = put_by_feeder among
        go (Some w) e lt among =
            let many = over.crew.many in
            let (worker, there) = item_at workers w (omega (arith, many, lt)) in
            ap (put_by begin rows ran lane) e ∙ put_by_worker w worker there among

    conserved : (journal : List Entry) → slice_get ran.journals lane.receiver ≡ Some journal → put_by begin rows ran lane lane.sender ≡ Some (shown setup n journal)
    conserved journal g = (lane_conserved begin rows ran n lane all_finished at journal s.tx.items s.rx.items s.left g put (taken journal g) s.settled).conserved

  pub is_run : AreSettled setup.job (map worker_side workers) outs → IsRunSince begin setup rows ran
  is_run settled = record {
    setup_is = refl;
    run = record {
      feed = over.feeds_are ∙ over.feeding.course.stopped over.stopped;
      one_start_each = over.starts;
      one_journal_each = length-map (map worked_of workers) (λ (x : WorkedIs). x.journal) ∙ (length-map workers worked_of ∙ over.crew.many);
      one_state_each = length-map (map worked_of workers) (λ (x : WorkedIs). x.state) ∙ (length-map workers worked_of ∙ over.crew.many);
      worked = all_worked;
      conserved = λ n lane journal at g. conserved n lane at (settled n lane at) journal g;
    };
  }

  -- the same of the endpoints and workers as code has them
  pub run_so : (job : JobView) (all : List SideIs) (left : List WorkedIs) → setup.job ≡ job → all ≡ map worker_side workers → left ≡ map worked_of workers
      → AreSettled job all outs → IsRunSince begin setup rows (record_of setup feeds left)
  run_so job all left e s l settled =
      subst (λ (ws : List WorkedIs). IsRunSince begin setup rows (record_of setup feeds ws)) (sym l)
      (is_run (subst (λ (xs : List SideIs). AreSettled setup.job xs outs) s (subst (λ (j : JobView). AreSettled j all outs) (sym e) settled)))
