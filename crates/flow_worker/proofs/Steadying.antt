-- What a worker sends is steady, by the law of one worker.
use Rattle.std.proofs.Common.{◌≡◌, List, ◌++◌, true, sym, ap, ◌∙◌, subst, Some, slice_get, ◌==◌}
use Rattle.std.proofs.lemmas.Bool.{eq-eqb}
use Rattle.flow_dag.specs.declared.edge.Edge.{Edge}
use Rattle.flow_dag.specs.declared.graph.Graph.{Graph}
use Rattle.keyed_state.specs.Counts.{Counts}
use Rattle.lane_core.specs.Steady.{IsSteady}
use Rattle.lane_core.specs.declared.form.Origin.{Origin}
use Rattle.lane_core.proofs.SteadyLemmas.{IsSteady-front}
use Rattle.sink_journal.specs.declared.journal.Entry.{Entry}
use Rattle.flow_model.specs.Agreement.{Agreement, HasSteadyLanes, IsGraphOf, SendsSteadily, WorksSteadily}
use Rattle.flow_model.specs.Begin.{Begin, view_at}
use Rattle.flow_model.specs.Lanes.{lanes, lanes_in}
use Rattle.flow_model.specs.declared.topology.Lane.{Lane}
use Rattle.flow_model.specs.SetupView.{SetupView, Worker as WorkerOf}
use Rattle.flow_model.specs.Replay.{items_sent, shown}
use Rattle.flow_model.specs.Run.{IsLawfulFrom}
use Rattle.flow_model.specs.Workers.{workers_in}
use Rattle.flow_model.proofs.ElementLemmas.{IsIn, in_map}
use Rattle.flow_model.proofs.LaneLemmas.{lanes_that_in}
use Rattle.flow_model.proofs.WorkerLemmas.{worker_with}
use Rattle.flow_worker.specs.Pairs.{EachOne}
use Rattle.flow_worker.specs.Endpoints.{LaneInIs, IsSteadyIn, IsSteadyOut, LaneOutIs, in_hand, planned}
use Rattle.flow_worker.specs.Worker.{HasTakenIn, IsEndpointIn, IsEndpointOut, IsPlaced, IsWorker, Sends, ShowsTaken, WorkerIs, lane_numbers_in}
use Rattle.flow_worker.proofs.Pairs.{each_at, each_of}

-- the two sentences of the law of one worker
abbrev pub KeepsAgreement : SetupView → Type 0
KeepsAgreement setup =
    (graph : Graph) (begin : Begin) (who : WorkerOf) (journal : List Entry) → IsGraphOf setup.job graph → WorksSteadily setup graph begin who journal → Agreement setup journal

abbrev pub KeepsSteady : SetupView → Type 0
KeepsSteady setup =
    (graph : Graph) (begin : Begin) (who : WorkerOf) (counts : Counts) (journal : List Entry) → IsGraphOf setup.job graph → WorksSteadily setup graph begin who journal
    → SendsSteadily setup graph begin who counts journal

-- what the lanes in have shown is steady
shows_steady : (setup : SetupView) (who : WorkerOf) (graph : Graph) (journal : List Entry)
    (ins : List LaneInIs) → lane_numbers_in ins ≡ lanes_in setup.job who.number
    → EachOne (IsEndpointIn setup graph) ins → HasTakenIn setup journal ins
    → HasSteadyLanes setup graph who journal
shows_steady setup who graph journal ins are ends taken n lane edge g r e =
    let t : (lane.receiver == who.number) ≡ true = eq-eqb lane.receiver who.number r in
    let i : IsIn n (lane_numbers_in ins) = subst (IsIn n) (sym are) (lanes_that_in (λ (l : Lane). l.receiver == who.number) setup.job n lane g t) in
    let a = in_map (λ (a : LaneInIs). a.number) n ins i in
    go a.0 a.2 (each_at (IsEndpointIn setup graph) a.0 ins ends a.1) (each_at (ShowsTaken setup journal) a.0 ins taken.takes a.1) (each_at IsSteadyIn a.0 ins taken.steady a.1)
  where
    go : (a : LaneInIs) → n ≡ a.number → IsEndpointIn setup graph a → ShowsTaken setup journal a → IsSteadyIn a → IsSteady (record { graph = graph; from = edge.from }) (shown setup n journal)
    go a q end t s =
        let there : slice_get (lanes setup.job) n ≡ Some end.lane = rw q end.numbered in
        let same : end.lane ≡ lane = cc in
        let at : slice_get setup.job.edges lane.edge ≡ Some end.edge = subst (λ (l : Lane). slice_get setup.job.edges l.edge ≡ Some end.edge) same end.edge_there in
        let edges : end.edge ≡ edge = cc in
        let from : a.origin ≡ record { graph = graph; from = edge.from } = end.origin_is ∙ ap (λ (x : Edge). record { graph = graph; from = x.from }) edges in
        let taken : IsSteady (record { graph = graph; from = edge.from }) a.taken = subst (λ (o : Origin). IsSteady o a.taken) from s in
        let parts : IsSteady (record { graph = graph; from = edge.from }) (shown setup a.number journal ++ in_hand a.hand) = subst (IsSteady (record { graph = graph; from = edge.from })) t taken in
        rw q (IsSteady-front (record { graph = graph; from = edge.from }) (shown setup a.number journal) (in_hand a.hand) parts)

pub works_steadily : (setup : SetupView) (begin : Begin) (who : WorkerOf) (w : WorkerIs)
    → (k : IsPlaced setup who w) → IsLawfulFrom setup begin who w.journal
    → HasTakenIn setup w.journal w.ins → WorksSteadily setup k.graph begin who w.journal
works_steadily setup begin who w k lawful taken =
    let number : who.number ≡ w.number =
    (worker_with setup.job w.number who k.stands.who_is).0 in
    record {
      works = subst (λ n. slice_get (workers_in setup.job) n ≡ Some who) (sym number)
          k.stands.who_is;
      lawful = lawful;
      steady = shows_steady setup who k.graph w.journal w.ins
          (k.ins.are ∙ ap (lanes_in setup.job) (sym number)) k.ins.ends taken;
    }

-- so what was and will be sent is steady
pub steady_by : (setup : SetupView) (begin : Begin) (who : WorkerOf) (begun : Counts)
    (w : WorkerIs) → KeepsSteady setup → IsPlaced setup who w
    → IsLawfulFrom setup begin who w.journal → HasTakenIn setup w.journal w.ins
    → EachOne (Sends setup begin who begun w.journal) w.outs → EachOne IsSteadyOut w.outs
steady_by setup begin who begun w keeps k lawful taken sends =
    each_of IsSteadyOut w.outs (λ o i.
    one o (each_at (IsEndpointOut setup k.graph w.node) o w.outs k.outs.ends i)
    (each_at (Sends setup begin who begun w.journal) o w.outs sends i))
  where
    one : (o : LaneOutIs) → IsEndpointOut setup k.graph w.node o → Sends setup begin who begun w.journal o → IsSteadyOut o
    one o end s =
        let all : IsSteady (record { graph = k.graph; from = who.node }) (items_sent setup who (view_at setup begin.turned who begun) end.lane w.journal) =
        keeps k.graph begin who begun w.journal k.graph_is (works_steadily setup begin who w k lawful taken) end.lane in
        let mine : IsSteady (record { graph = k.graph; from = who.node }) (planned o) = subst (IsSteady (record { graph = k.graph; from = who.node })) (sym (s end.lane end.numbered)) all in
        let from : record { graph = k.graph; from = who.node } ≡ o.origin = sym (end.origin_is ∙ ap (λ n. record { graph = k.graph; from = n }) k.stands.node_is) in
        subst (λ (g : Origin). IsSteady g (planned o)) from mine

pub worker_agreement : (setup : SetupView) (begin : Begin) (w : WorkerIs) → KeepsAgreement setup
    → IsWorker setup begin w → Agreement setup w.journal
worker_agreement setup begin w keeps h =
    keeps h.placed.graph begin h.who w.journal h.placed.graph_is
    (works_steadily setup begin h.who w h.placed h.lawful h.taken)
