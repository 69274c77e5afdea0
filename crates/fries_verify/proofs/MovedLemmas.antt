-- A run whose requests wait for other rows, by which the feeder does the same.
use Rattle.std.proofs.Common.{◌≡◌, ◌∙◌, ◌+◌, ◌-◌, ◌==◌, ◌++◌, ℕ, zero, suc, List, [], ◌∷◌}
use Rattle.std.proofs.Common.{Option, None, Some, ap}
use Rattle.std.proofs.Common.{cond, filter, flat_map, length, refl, slice_get, subst, sym}
use Rattle.cover_planner.specs.declared.cover.Plan.{Plan}
use Rattle.jobs.specs.declared.func.Func.{Func}
use Rattle.keyed_state.specs.Counts.{Counts}
use Rattle.sink_journal.specs.declared.journal.Entry.{Entry}
use Rattle.sink_journal.specs.declared.journal.Entry.TheVariants as entry
use Rattle.sink_journal.specs.declared.journal.Feed.{Feed}
use Rattle.tuple_trace.specs.declared.row.Row.{Row}
use Rattle.tuple_trace.specs.declared.tuple.Item.{Item}
use Rattle.versions.specs.declared.request.Change.{Change}
use Rattle.versions.specs.declared.request.Request.{Request}
use Rattle.flow_model.specs.Begin.{Begin, last_after, view_at}
use Rattle.flow_model.specs.Covers.{covers, heads, holds_edge, holds_node, plan_of}
use Rattle.flow_model.specs.Duties.{duties, numbers_from}
use Rattle.flow_model.specs.Feeding.{feed_from}
use Rattle.flow_model.specs.Lanes.{lanes_in, lanes_out, marked_lanes}
use Rattle.flow_model.specs.Law.{Duties, IsFinished}
use Rattle.flow_model.specs.Replay.{Put, StateView, after, after_all, came_in, items_on, marker_by}
use Rattle.flow_model.specs.Replay.{put_on_each, puts, items_sent, shown, after_change}
use Rattle.flow_model.specs.Requests.{afters, change_asked, change_by, func_after, func_with}
use Rattle.flow_model.specs.Run.{IsRunFrom, IsRunSince, IsWorked, final_counts, put_by, ran_as}
use Rattle.flow_model.specs.Run.{sent_by}
use Rattle.flow_model.specs.SetupView.{SetupView, Worker}
use Rattle.flow_model.specs.Waiting.{waiting_for, with_afters}
use Rattle.flow_model.specs.Workers.{workers_in}
use Rattle.flow_model.specs.declared.topology.Lane.{Lane}

change_waiting : (waits : List ℕ) (requests : List Request) (place node : ℕ)
    → change_asked (slice_get (with_afters waits requests) place) node
    ≡ change_asked (slice_get requests place) node
change_waiting [] requests place node = refl
change_waiting (w ∷ ws) [] place node = refl
change_waiting (w ∷ ws) (q ∷ qs) zero node = refl
change_waiting (w ∷ ws) (q ∷ qs) (suc place) node = change_waiting ws qs place node

module _ (setup : SetupView) (waits : List ℕ) where
  abbrev moved : SetupView
  moved = waiting_for waits setup

  plan_same : (r : ℕ) → plan_of moved r ≡ plan_of setup r
  plan_same zero = refl
  plan_same (suc r) = refl

  change_same : (r node : ℕ) → change_by moved r node ≡ change_by setup r node
  change_same zero node = refl
  change_same (suc r) node = change_waiting waits setup.requests r node

  after_same : (who : Worker) (view : StateView) (e : Entry)
      → after moved who view e ≡ after setup who view e
  after_same who view (entry.Met l t) = refl
  after_same who view (entry.Marked l r) = refl
  after_same who view (entry.Turned r) =
      ap (λ (o : Option Change). record (after_change o view) { last = r })
      (change_same r who.node)
  after_same who view (entry.Ended l) = refl

  after_all_same : (who : Worker) (view : StateView) (journal : List Entry)
      → after_all moved who view journal ≡ after_all setup who view journal
  after_all_same who view [] = refl
  after_all_same who view (e ∷ more) =
      ap (λ (v : StateView). after_all moved who v more) (after_same who view e)
      ∙ after_all_same who (after setup who view e) more

  puts_same : (who : Worker) (view : StateView) (e : Entry)
      → puts moved who view e ≡ puts setup who view e
  puts_same who view (entry.Met l t) = refl
  puts_same who view (entry.Marked l r) = refl
  puts_same who view (entry.Turned r) =
      ap (λ (o : Option Plan). flat_map (λ mark. put_on_each mark (filter
      (λ (lane : Lane). holds_edge o lane.edge) (lanes_out setup.job who.number)))
      (marker_by r o)) (plan_same r)
  puts_same who view (entry.Ended l) = refl

  sent_same : (who : Worker) (view : StateView) (lane : Lane) (journal : List Entry)
      → items_sent moved who view lane journal ≡ items_sent setup who view lane journal
  sent_same who view lane [] = refl
  sent_same who view lane (e ∷ more) =
      ap (λ (ps : List Put). items_on lane ps ++ items_sent moved who (after moved who view e) lane more)
      (puts_same who view e)
      ∙ (ap (λ (v : StateView). items_on lane (puts setup who view e)
      ++ items_sent moved who v lane more) (after_same who view e)
      ∙ ap (λ (l : List Item). items_on lane (puts setup who view e) ++ l)
      (sent_same who (after setup who view e) lane more))

  came_same : (lane : ℕ) (e : Entry) → came_in moved lane e ≡ came_in setup lane e
  came_same lane (entry.Met from t) = refl
  came_same lane (entry.Marked from r) =
      ap (λ (o : Option Plan). cond (from == lane) (marker_by r o) []) (plan_same r)
  came_same lane (entry.Turned r) = refl
  came_same lane (entry.Ended from) = refl

  shown_same : (lane : ℕ) (journal : List Entry)
      → shown moved lane journal ≡ shown setup lane journal
  shown_same lane [] = refl
  shown_same lane (e ∷ more) =
      ap (λ (l : List Item). l ++ shown moved lane more) (came_same lane e)
      ∙ ap (λ (l : List Item). came_in setup lane e ++ l) (shown_same lane more)

  func_same : (node : ℕ) (func : Func) (r : ℕ)
      → func_after moved node func r ≡ func_after setup node func r
  func_same node func zero = refl
  func_same node func (suc r) =
      ap (λ (o : Option Change). func_with o (func_after moved node func r))
      (change_same (suc r) node)
      ∙ ap (func_with (change_by setup (suc r) node)) (func_same node func r)

  last_same : (node r : ℕ) → last_after moved node r ≡ last_after setup node r
  last_same node zero = refl
  last_same node (suc r) =
      ap (λ k. cond (covers setup (suc r) node) (suc r) k) (last_same node r)

  view_same : (turned : ℕ) (who : Worker) (counts : Counts)
      → view_at moved turned who counts ≡ view_at setup turned who counts
  view_same turned who counts = λ i. record {
    func = func_same who.node who.func turned i;
    counts = counts;
    last = last_same who.node turned i;
    ended = 0;
  }

  duties_same : (turned : ℕ) (who : Worker) → duties moved turned who ≡ duties setup turned who
  duties_same turned who = λ i. record {
    lanes = lanes_in setup.job who.number;
    dues = filter (λ r. holds_node (plan_same r i) who.node)
        (numbers_from (turned + 1) (length setup.plans - turned));
    is_head = λ request. heads (plan_same request i) who.node;
    marked_lanes = λ request. marked_same request i;
  }
    where
      marked_same : (r : ℕ) → marked_lanes moved who.number r ≡ marked_lanes setup who.number r
      marked_same zero = refl
      marked_same (suc r) = refl

  -- ---- a run

  counts_same : (begin : Begin) (who : Worker) (counts : Counts) (journal : List Entry)
      → final_counts moved begin who counts journal ≡ final_counts setup begin who counts journal
  counts_same begin who counts journal =
      ap (λ (v : StateView). v.counts)
      (after_all_same who (view_at moved begin.turned who counts) journal
      ∙ ap (λ (v : StateView). after_all setup who v journal)
      (view_same begin.turned who counts))

  worked_same : (begin : Begin) (who : Worker) (counts : Counts) (journal : List Entry)
      (state : Counts) → IsWorked setup begin who counts journal state
      → IsWorked moved begin who counts journal state
  worked_same begin who counts journal state is = record {
    finished = subst (λ (d : Duties). IsFinished d journal) (sym (duties_same begin.turned who))
        is.finished;
    state_is = is.state_is ∙ sym (counts_same begin who counts journal);
  }

  by_same : (begin : Begin) (lane : Lane) (who : Option Worker) (counts : Option Counts)
      (journal : Option (List Entry))
      → sent_by moved begin lane who counts journal ≡ sent_by setup begin lane who counts journal
  by_same begin lane (Some who) (Some counts) (Some journal) =
      ap Some
      (sent_same who (view_at moved begin.turned who counts) lane journal
      ∙ ap (λ (v : StateView). items_sent setup who v lane journal)
      (view_same begin.turned who counts))
  by_same begin lane None counts journal = refl
  by_same begin lane (Some who) None journal = refl
  by_same begin lane (Some who) (Some counts) None = refl

  module _ (begin : Begin) (rows : List Row) (feeds : List Feed) (journals : List (List Entry))
      (states : List Counts) where
    put_same : (lane : Lane) (sender : Option ℕ)
        → put_by begin rows (ran_as moved feeds journals states) lane sender
        ≡ put_by begin rows (ran_as setup feeds journals states) lane sender
    put_same lane None = refl
    put_same lane (Some worker) =
        by_same begin lane (slice_get (workers_in setup.job) worker)
        (slice_get begin.states worker) (slice_get journals worker)

    -- what it left is a run under both, if the feeder does the same
    pub run_moved : feed_from begin.row begin.turned (afters moved.requests) (length rows)
        ≡ feed_from begin.row begin.turned (afters setup.requests) (length rows)
        → IsRunFrom begin rows (ran_as setup feeds journals states)
        → IsRunSince begin moved rows (ran_as moved feeds journals states)
    run_moved same is = record {
      setup_is = refl;
      run = record {
        feed = is.feed ∙ sym same;
        one_start_each = is.one_start_each;
        one_journal_each = is.one_journal_each;
        one_state_each = is.one_state_each;
        worked = λ w who counts journal state a b c d.
            worked_same begin who counts journal state
            (is.worked w who counts journal state a b c d);
        conserved = λ n lane journal a b.
            put_same lane lane.sender
            ∙ (is.conserved n lane journal a b ∙ ap Some (sym (shown_same n journal)));
      };
    }
