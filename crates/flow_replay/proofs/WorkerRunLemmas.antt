-- What a worker gains when it turns and when it ends.
use Rattle.std.proofs.Common.{◌≡◌, ◌<◌, ◌≤◌, ◌+◌, ◌==◌, ◌&&◌, ℕ, List, [], ◌∷◌, ◌++◌, Bool, true, false, cond, length, map, drop, get_or, Some, inl, inr, refl, sym, ap, subst, ◌∙◌, arith, append_assoc}
use Rattle.std.specs.Prelude.{filter, option_map, slice_get}
use Rattle.std.specs.List.{enumerate_from}
use Rattle.std.proofs.lemmas.List.{append-nil, drop_all, drop_more}
use Rattle.std.proofs.lemmas.Option.{get_or_from_slice_get, same_Some}
use Rattle.jobs.specs.JobView.{JobView}
use Rattle.sink_journal.specs.declared.journal.Entry.{Entry}
use Rattle.sink_journal.specs.declared.journal.Entry.TheVariants as entry
use Rattle.flow_model.specs.Covers.{covers, covers_edge}
use Rattle.flow_model.specs.Lanes.{lane_at, lanes, lanes_in, marked_lanes, no_lane, senders}
use Rattle.flow_model.specs.declared.topology.Lane.{Lane}
use Rattle.flow_model.specs.declared.topology.WorkerAt.{WorkerAt}
use Rattle.flow_model.specs.declared.worker_state.WorkerState.{WorkerState}
use Rattle.flow_model.specs.SetupView.{SetupView, Worker}
use Rattle.flow_model.specs.Replay.{StateView, after, after_all}
use Rattle.flow_model.specs.Topology.{worker_of}
use Rattle.flow_model.specs.WorkerState.{IsTurned, state_view}
use Rattle.flow_model.specs.Workers.{nth_worker, workers_in}
use Rattle.flow_replay.specs.declared.worker_run.WorkerRun.{WorkerRun}
use Rattle.flow_replay.specs.inner.Runs.{IsGain, end_block, ended_entries, marks, run_view}
use Rattle.flow_replay.specs.inner.Runs.{turn_block, turn_entries}
use Rattle.flow_model.proofs.ElementLemmas.{IsIn}
use Rattle.flow_model.proofs.LaneLemmas.{in_enumerate}
use Rattle.flow_model.proofs.LaneNumbers.{sends}
use Rattle.flow_model.proofs.WorkerPlaces.{get-nth_worker}

-- ---- where a worker is

pub worker_sends : (job : JobView) (w : ℕ) (at : WorkerAt) → w < length (workers_in job) → at
    ≡ worker_of (nth_worker job w) → slice_get (senders job at.node) at.place ≡ Some (Some w)
worker_sends job w at lt is = subst (λ (a : WorkerAt). slice_get (senders job a.node) a.place
    ≡ Some (Some w)) (sym is) (sends job w (nth_worker job w) (get-nth_worker job w lt))

-- ---- lanes in

-- the numbers of the lanes in that bring the marker of a request, by a test of the numbers
numbers_passing : (R C : Lane → Bool) (test : ℕ → Bool) (ps : List (ℕ × Lane)) →
    ((p : ℕ × Lane) → IsIn p ps → test p.0 ≡ C p.1)
    → filter test (map (λ (p : ℕ × Lane). p.0) (filter (λ (p : ℕ × Lane). R p.1) ps))
    ≡ map (λ (p : ℕ × Lane). p.0) (filter (λ (p : ℕ × Lane). R p.1 && C p.1) ps)
numbers_passing R C test [] same = refl
numbers_passing R C test (p ∷ ps) same = go (R p.1) (numbers_passing R C test ps (λ q i. same q (inr
    i)))
  where
    rest : List ℕ
    rest = map (λ (p : ℕ × Lane). p.0) (filter (λ (p : ℕ × Lane). R p.1 && C p.1) ps)

    go : (b : Bool) → filter test (map (λ (p : ℕ × Lane). p.0) (filter (λ (p : ℕ × Lane). R p.1)
        ps)) ≡ rest
        → filter test (map (λ (p : ℕ × Lane). p.0) (cond b (p ∷ filter (λ (p : ℕ × Lane). R p.1) ps)
        (filter (λ (p : ℕ × Lane). R p.1) ps)))
        ≡ map (λ (p : ℕ × Lane). p.0) (cond (b && C p.1) (p ∷ filter (λ (p : ℕ × Lane). R p.1 && C
        p.1) ps) (filter (λ (p : ℕ × Lane). R p.1 && C p.1) ps))
    go true h = rw (same p (inl refl)) (by_test (C p.1) h)
      where
        by_test : (c : Bool) → filter test (map (λ (p : ℕ × Lane). p.0) (filter (λ (p : ℕ × Lane). R
            p.1) ps)) ≡ rest
            → cond c (p.0 ∷ filter test (map (λ (p : ℕ × Lane). p.0) (filter (λ (p : ℕ × Lane). R
            p.1) ps))) (filter test (map (λ (p : ℕ × Lane). p.0) (filter (λ (p : ℕ × Lane). R p.1)
            ps)))
            ≡ map (λ (p : ℕ × Lane). p.0) (cond c (p ∷ filter (λ (p : ℕ × Lane). R p.1 && C p.1) ps)
            (filter (λ (p : ℕ × Lane). R p.1 && C p.1) ps))
        by_test true h = ap (λ (l : List ℕ). p.0 ∷ l) h
        by_test false h = h
    go false h = h

abbrev pub marks_lane : SetupView → ℕ → ℕ → Bool
marks_lane setup r number = covers_edge setup r (lane_at setup.job number).edge

lanes-marked : (setup : SetupView) (w r : ℕ) → filter (marks_lane setup r) (lanes_in setup.job w)
    ≡ marked_lanes setup w r
lanes-marked setup w r =
    numbers_passing (λ (lane : Lane). lane.receiver == w) (λ (lane : Lane). covers_edge setup r
    lane.edge) (marks_lane setup r) (enumerate_from 0 (lanes setup.job)) (λ p i.
    let (n, at, there) = in_enumerate 0 (lanes setup.job) p i in
    let same : p.0 ≡ n = omega (arith, at) in
    ap (λ (l : Lane). covers_edge setup r l.edge) (get_or_from_slice_get (lanes setup.job) p.0 p.1
    no_lane (ap (slice_get (lanes setup.job)) same ∙ there)))

-- ---- the markers, one after another

abbrev pub marks_of : SetupView → ℕ → List ℕ → List Entry
marks_of setup r numbers = marks r (filter (marks_lane setup r) numbers)

pub marks-take : (setup : SetupView) (r i : ℕ) (numbers : List ℕ) (done more all : List Entry) →
    i < length numbers → marks_lane setup r (get_or numbers i 0) ≡ true
    → more ≡ done ++ entry.Marked (get_or numbers i 0) r ∷ []
    → done ++ marks_of setup r (drop i numbers) ≡ all →
    more ++ marks_of setup r (drop (i + 1) numbers) ≡ all
marks-take setup r i numbers done more all lt t grown h =
    ap (λ (l : List Entry). l ++ marks_of setup r (drop (i + 1) numbers)) grown
    ∙ (append_assoc done (entry.Marked (get_or numbers i 0) r ∷ []) (marks_of setup r (drop (i + 1)
    numbers))
    ∙ (ap (λ (b : Bool). done ++ marks r (cond b (get_or numbers i 0 ∷ filter (marks_lane setup r)
    (drop (i + 1) numbers)) (filter (marks_lane setup r) (drop (i + 1) numbers)))) (sym t)
    ∙ (ap (λ (l : List ℕ). done ++ marks_of setup r l) (sym (drop_more numbers i 0 lt)) ∙ h)))

pub marks-skip : (setup : SetupView) (r i : ℕ) (numbers : List ℕ) (done all : List Entry) →
    i < length numbers → marks_lane setup r (get_or numbers i 0) ≡ false
    → done ++ marks_of setup r (drop i numbers) ≡ all →
    done ++ marks_of setup r (drop (i + 1) numbers) ≡ all
marks-skip setup r i numbers done all lt t h =
    ap (λ (b : Bool). done ++ marks r (cond b (get_or numbers i 0 ∷ filter (marks_lane setup r)
    (drop (i + 1) numbers)) (filter (marks_lane setup r) (drop (i + 1) numbers)))) (sym t)
    ∙ (ap (λ (l : List ℕ). done ++ marks_of setup r l) (sym (drop_more numbers i 0 lt)) ∙ h)

pub marks-end : (setup : SetupView) (w r i : ℕ) (numbers : List ℕ) (old done : List Entry) →
    length numbers ≤ i → numbers ≡ lanes_in setup.job w
    → done ++ marks_of setup r (drop i numbers) ≡ old ++ marks_of setup r numbers → done
    ≡ old ++ marks r (marked_lanes setup w r)
marks-end setup w r i numbers old done le is h =
    sym (append-nil done)
    ∙ (ap (λ (l : List ℕ). done ++ marks_of setup r l) (sym (drop_all i numbers le))
    ∙ (h ∙ (ap (λ (l : List ℕ). old ++ marks_of setup r l) is
    ∙ ap (λ (l : List ℕ). old ++ marks r l) (lanes-marked setup w r))))

-- the edge that the code reads of a lane
pub edge_marks : (setup : SetupView) (r number edge : ℕ) (lane : Lane) (b : Bool) →
    slice_get (lanes setup.job) number ≡ Some lane → edge ≡ lane.edge → b
    ≡ covers_edge setup r edge → marks_lane setup r number ≡ b
edge_marks setup r number edge lane b there is told =
    ap (λ (l : Lane). covers_edge setup r l.edge) (get_or_from_slice_get (lanes setup.job) number
    lane no_lane there) ∙ (ap (covers_edge setup r) (sym is) ∙ sym told)

-- ---- the ends

-- the lanes before a place have ended
pub record HaveEnded (i : ℕ) (numbers : List ℕ) (old new : WorkerRun) : Type 0 where
  pub journal : new.journal ++ ended_entries (drop i numbers) ≡ old.journal ++ ended_entries numbers
  pub view : (setup : SetupView) (who : Worker) →
      after_all setup who (run_view setup who new) (ended_entries (drop i numbers))
      ≡ after_all setup who (run_view setup who old) (ended_entries numbers)
  pub ended : new.state.ended ≡ old.state.ended + i

pub ends-next : (i : ℕ) (numbers : List ℕ) (old mid new : WorkerRun) → i < length numbers →
    new.journal ≡ mid.journal ++ entry.Ended (get_or numbers i 0) ∷ []
    → new.state ≡ record mid.state { ended = mid.state.ended + 1 } →
    HaveEnded i numbers old mid → HaveEnded (i + 1) numbers old new
ends-next i numbers old mid new lt grown step h = record {
  journal =
      ap (λ (l : List Entry). l ++ ended_entries (drop (i + 1) numbers)) grown
      ∙ (append_assoc mid.journal (entry.Ended (get_or numbers i 0) ∷ [])
      (ended_entries (drop (i + 1) numbers))
      ∙ (ap (λ (l : List ℕ). mid.journal ++ ended_entries l) (sym (drop_more numbers i 0 lt))
      ∙ h.journal));
  view = λ setup who.
      ap (λ (x : WorkerState). after_all setup who (state_view setup who x)
      (ended_entries (drop (i + 1) numbers))) step
      ∙ (ap (λ (l : List ℕ). after_all setup who (run_view setup who mid) (ended_entries l))
      (sym (drop_more numbers i 0 lt)) ∙ h.view setup who);
  ended = let e = ap (λ (x : WorkerState). x.ended) step in omega (arith, e, h.ended);
}

pub ends-end : (setup : SetupView) (who : Worker) (w i : ℕ) (numbers : List ℕ)
    (old new : WorkerRun) →
    numbers ≡ lanes_in setup.job w → length numbers ≤ i → HaveEnded i numbers old new
    → IsGain setup who (end_block setup.job w) old new
ends-end setup who w i numbers old new are le h =
    subst (λ (ns : List ℕ). IsGain setup who (ended_entries ns) old new) are (record {
      journal =
          sym (append-nil new.journal)
          ∙ (ap (λ (l : List ℕ). new.journal ++ ended_entries l) (sym (drop_all i numbers le))
          ∙ h.journal);
      view =
          ap (λ (l : List ℕ). after_all setup who (run_view setup who new) (ended_entries l))
          (sym (drop_all i numbers le))
          ∙ h.view setup who;
    })

-- ---- a turn

marks-view : (setup : SetupView) (who : Worker) (view : StateView) (r : ℕ) (ns : List ℕ) →
    after_all setup who view (marks r ns ++ entry.Turned r ∷ [])
    ≡ after setup who view (entry.Turned r)
marks-view setup who view r [] = refl
marks-view setup who view r (n ∷ ns) = marks-view setup who view r ns

-- the markers, the turn, and what it puts in force
pub turned : (setup : SetupView) (w r node : ℕ) (old new : WorkerRun) (marked : List Entry) →
    node ≡ (nth_worker setup.job w).node
    → marked ≡ old.journal ++ marks r (marked_lanes setup w r) → new.journal
    ≡ marked ++ entry.Turned r ∷ []
    → IsTurned setup node r old.state new.state → IsGain setup (nth_worker setup.job w) (turn_entries
    setup r w) old new
turned setup w r node old new marked at m j is = record {
  journal = j ∙ (ap (λ (l : List Entry). l ++ entry.Turned r ∷ []) m
      ∙ append_assoc old.journal (marks r (marked_lanes setup w r)) (entry.Turned r ∷ []));
  view = is (nth_worker setup.job w) (sym at) ∙ sym (marks-view setup (nth_worker setup.job w) (run_view
      setup (nth_worker setup.job w) old) r (marked_lanes setup w r));
}

pub uncovered_gain : (setup : SetupView) (w r : ℕ) (run : WorkerRun) →
    covers setup r (nth_worker setup.job w).node ≡ false →
    IsGain setup (nth_worker setup.job w) (turn_block setup r w) run run
uncovered_gain setup w r run t =
    subst (λ (b : Bool). IsGain setup (nth_worker setup.job w) (cond b (turn_entries setup r w) []) run
    run) (sym t) (record { journal = sym (append-nil run.journal); view = refl })

-- what the setup answers of a worker's cover
pub cover_answer : (setup : SetupView) (w r : ℕ) (b : Bool) → w < length (workers_in setup.job) →
    option_map (λ (who : Worker). covers setup r who.node) (slice_get (workers_in setup.job) w)
    ≡ Some b → covers setup r (nth_worker setup.job w).node ≡ b
cover_answer setup w r b lt e =
    same_Some (covers setup r (nth_worker setup.job w).node) b (sym (ap (option_map (λ (who : Worker).
    covers setup r who.node)) (get-nth_worker setup.job w lt)) ∙ e)
