-- The steps that keep the journal keep the law.
use Rattle.std.proofs.Common.{◌≡◌, ℕ, List, false, sym, ap, ◌∙◌, subst, Some, slice_get}
use Rattle.control_box.specs.Endpoints.{OwnerIs}
use Rattle.flow_dag.specs.declared.graph.Graph.{Graph}
use Rattle.keyed_state.specs.Counts.{Counts}
use Rattle.lane_core.specs.Steady.{IsSteady}
use Rattle.lane_core.specs.declared.form.Origin.{Origin}
use Rattle.sink_journal.specs.declared.journal.Entry.{Entry}
use Rattle.flow_model.specs.Begin.{Begin}
use Rattle.flow_model.specs.Lanes.{lanes}
use Rattle.flow_model.specs.SetupView.{SetupView, Worker as WorkerOf}
use Rattle.flow_model.specs.Replay.{shown}
use Rattle.flow_worker.specs.Pairs.{EachPair}
use Rattle.flow_worker.specs.Endpoints.{Filled, Flushed, LaneInIs, IsSteadyIn, IsSteadyOut, LaneOutIs, SameButMemory, planned}
use Rattle.flow_worker.specs.Worker.{IsEndpointIn, IsEndpointOut, IsWorker, Sends, ShowsTaken, WorkerIs, edges_of}
use Rattle.flow_worker.specs.Steps.{MemoryOnly, PollsOnly, PutsOnly, TakesOnly}
use Rattle.flow_worker.proofs.Pairs.{pairs_each, pairs_keep, pairs_length}

-- ---- lanes out

flushed_steady : (a b : LaneOutIs) → Flushed a b → IsSteadyOut a → IsSteadyOut b
flushed_steady a b f s =
    let P : Origin → Type 0 = λ o. IsSteady o (planned b) in
    subst P (sym f.same.2) (subst (IsSteady a.origin) (sym f.planned_is) s)

flushed_end : (setup : SetupView) (graph : Graph) (node : ℕ) (a b : LaneOutIs) → Flushed a b → IsEndpointOut setup graph node a → IsEndpointOut setup graph node b
flushed_end setup graph node a b f h = record {
  lane = h.lane;
  numbered = rw f.same.1 h.numbered;
  edge_is = f.same.3 ∙ h.edge_is;
  origin_is = f.same.2 ∙ h.origin_is;
}

flushed_sends : (setup : SetupView) (begin : Begin) (who : WorkerOf) (counts : Counts) (journal : List Entry) (a b : LaneOutIs) → Flushed a b → Sends setup begin who counts journal a → Sends setup begin who counts journal b
flushed_sends setup begin who counts journal a b f h lane g = f.planned_is ∙ h lane (subst (λ n. slice_get (lanes setup.job) n ≡ Some lane) f.same.1 g)

pub keeps_puts : (setup : SetupView) (begin : Begin) (w v : WorkerIs) → PutsOnly w v
    → IsWorker setup begin w → IsWorker setup begin v
keeps_puts setup begin w v p h = subst (IsWorker setup begin) (sym p.rest) (go v.outs p.outs)
  where
    go : (outs : List LaneOutIs) → EachPair Flushed w.outs outs
        → IsWorker setup begin (record w { outs = outs })
    go outs e =
        let k = h.placed in
        let IsEnd = IsEndpointOut setup k.graph w.node in
        let IsSent = Sends setup begin h.who h.begun w.journal in
        record {
          who = h.who;
          placed = record {
            stands = k.stands;
            graph = k.graph;
            graph_is = k.graph_is;
            ins = k.ins;
            outs = record {
              are = pairs_keep Flushed (λ (o : LaneOutIs). o.number) w.outs outs
                  (λ a b f. f.same.1) e ∙ k.outs.are;
              ends = pairs_each Flushed IsEnd IsEnd w.outs outs
                  (flushed_end setup k.graph w.node) e k.outs.ends;
              room = rw (pairs_length Flushed w.outs outs e) k.outs.room;
            };
          };
          begun = h.begun;
          begun_is = h.begun_is;
          lawful = h.lawful;
          view = h.view;
          taken = h.taken;
          sent = record {
            sends = pairs_each Flushed IsSent IsSent w.outs outs
                (flushed_sends setup begin h.who h.begun w.journal) e h.sent.sends;
            steady = pairs_each Flushed IsSteadyOut IsSteadyOut w.outs outs flushed_steady e
                h.sent.steady;
          };
          turned_is = h.turned_is;
          due = h.due;
          closing = h.closing;
        }

-- ---- lanes in

filled_end : (setup : SetupView) (graph : Graph) (a b : LaneInIs) → Filled a b → IsEndpointIn setup graph a → IsEndpointIn setup graph b
filled_end setup graph a b f q = record {
  lane = q.lane;
  edge = q.edge;
  numbered = rw f.same.1 q.numbered;
  edge_is = f.same.3 ∙ q.edge_is;
  edge_there = q.edge_there;
  origin_is = f.same.2 ∙ q.origin_is;
}

filled_takes : (setup : SetupView) (journal : List Entry) (a b : LaneInIs) → Filled a b → ShowsTaken setup journal a → ShowsTaken setup journal b
filled_takes setup journal a b f q = rw f.same.1 (f.kept (shown setup a.number journal) q)

pub keeps_takes : (setup : SetupView) (begin : Begin) (w v : WorkerIs) → TakesOnly w v
    → w.closed ≡ false → IsWorker setup begin w → IsWorker setup begin v
keeps_takes setup begin w v p open_ h = subst (IsWorker setup begin) (sym p.rest) (go v.ins p.ins)
  where
    go : (ins : List LaneInIs) → EachPair Filled w.ins ins
        → IsWorker setup begin (record w { ins = ins })
    go ins e =
        let k = h.placed in
        let edges : edges_of ins ≡ edges_of w.ins =
        pairs_keep Filled (λ (a : LaneInIs). a.edge) w.ins ins (λ a b f. f.same.3) e in
        let IsEnd = IsEndpointIn setup k.graph in
        let IsTaken = ShowsTaken setup w.journal in
        record {
          who = h.who;
          placed = record {
            stands = k.stands;
            graph = k.graph;
            graph_is = k.graph_is;
            ins = record {
              are = pairs_keep Filled (λ (a : LaneInIs). a.number) w.ins ins
                  (λ a b f. f.same.1) e ∙ k.ins.are;
              ends = pairs_each Filled IsEnd IsEnd w.ins ins (filled_end setup k.graph) e
                  k.ins.ends;
              some = rw (pairs_length Filled w.ins ins e) k.ins.some;
              few = rw (pairs_length Filled w.ins ins e) k.ins.few;
              room = rw (pairs_length Filled w.ins ins e) k.ins.room;
            };
            outs = k.outs;
          };
          begun = h.begun;
          begun_is = h.begun_is;
          lawful = h.lawful;
          view = h.view;
          taken = record {
            takes = pairs_each Filled IsTaken IsTaken w.ins ins (filled_takes setup w.journal) e
                h.taken.takes;
            steady = pairs_each Filled IsSteadyIn IsSteadyIn w.ins ins (λ a b f q. f.steady q) e
                h.taken.steady;
          };
          sent = h.sent;
          turned_is = h.turned_is;
          due = rw edges h.due;
          closing = record {
            unended = h.closing.unended;
            finished = h.closing.finished;
            put_down = λ c. absurd (cc (c, open_));
          };
        }

-- ---- the box

pub keeps_poll : (setup : SetupView) (begin : Begin) (w v : WorkerIs) (n : ℕ) → PollsOnly w v n
    → IsWorker setup begin w → IsWorker setup begin v
keeps_poll setup begin w v n p h = subst (IsWorker setup begin) (sym p.rest) (go v.owner p.turned)
  where
    go : (owner : OwnerIs) → owner.turned ≡ w.owner.turned
        → IsWorker setup begin (record w { owner = owner })
    go owner e =
        let k = h.placed in
        record {
          who = h.who;
          placed = record {
            stands = k.stands;
            graph = k.graph;
            graph_is = k.graph_is;
            ins = k.ins;
            outs = k.outs;
          };
          begun = h.begun;
          begun_is = h.begun_is;
          lawful = h.lawful;
          view = h.view;
          taken = h.taken;
          sent = h.sent;
          turned_is = e ∙ h.turned_is;
          due = rw e h.due;
          closing = h.closing;
        }

-- ---- memory is no part of the law

moved_out : (P : LaneOutIs → Type 0) → ((a : LaneOutIs) (m : ℕ) → P a → P (record a { memory = m })) → (a b : LaneOutIs) → SameButMemory a b → P a → P b
moved_out P f a b e q = subst P (sym e) (f a b.memory q)

end_moved : (setup : SetupView) (graph : Graph) (node : ℕ) (a : LaneOutIs) (m : ℕ) → IsEndpointOut setup graph node a → IsEndpointOut setup graph node (record a { memory = m })
end_moved setup graph node a m h = record { lane = h.lane; numbered = h.numbered; edge_is = h.edge_is; origin_is = h.origin_is }

pub keeps_memory : (setup : SetupView) (begin : Begin) (w v : WorkerIs) → MemoryOnly w v
    → IsWorker setup begin w → IsWorker setup begin v
keeps_memory setup begin w v p h =
    subst (IsWorker setup begin) (sym p.rest) (go v.outs v.memory p.outs)
  where
    go : (outs : List LaneOutIs) (m : ℕ) → EachPair SameButMemory w.outs outs
        → IsWorker setup begin (record w { outs = outs; memory = m })
    go outs m e =
        let k = h.placed in
        let IsEnd = IsEndpointOut setup k.graph w.node in
        let IsSent = Sends setup begin h.who h.begun w.journal in
        record {
          who = h.who;
          placed = record {
            stands = k.stands;
            graph = k.graph;
            graph_is = k.graph_is;
            ins = k.ins;
            outs = record {
              are = pairs_keep SameButMemory (λ (o : LaneOutIs). o.number) w.outs outs
                  (λ a b f. ap (λ (o : LaneOutIs). o.number) f) e ∙ k.outs.are;
              ends = pairs_each SameButMemory IsEnd IsEnd w.outs outs
                  (moved_out IsEnd (end_moved setup k.graph w.node)) e k.outs.ends;
              room = rw (pairs_length SameButMemory w.outs outs e) k.outs.room;
            };
          };
          begun = h.begun;
          begun_is = h.begun_is;
          lawful = h.lawful;
          view = h.view;
          taken = h.taken;
          sent = record {
            sends = pairs_each SameButMemory IsSent IsSent w.outs outs
                (moved_out IsSent (λ a m q. q)) e h.sent.sends;
            steady = pairs_each SameButMemory IsSteadyOut IsSteadyOut w.outs outs
                (moved_out IsSteadyOut (λ a m q. q)) e h.sent.steady;
          };
          turned_is = h.turned_is;
          due = h.due;
          closing = h.closing;
        }
