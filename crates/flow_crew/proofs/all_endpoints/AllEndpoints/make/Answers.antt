use Rattle.std.proofs.Common.{◌≡◌, ◌≤◌, ◌∙◌, ◌<◌, ◌+◌, ℕ, List, [], ◌∷◌, ap, sym, subst, arith, length, map}
use Rattle.std.proofs.lemmas.List.{with_items_is}
use Rattle.std.specs.Prelude.{All, IfSome}
use Rattle.std.proofs.lemmas.List.Elements.{All-nil}
use Rattle.std.specs.Vec.{with_items}
use Rattle.flow_model.specs.Lanes.{lanes}
use Rattle.flow_model.specs.Setup.{setup_view}
use Rattle.flow_model.specs.Workers.{workers_in}
use Rattle.flow_model.specs.declared.topology.Topology.{Topology}
use Rattle.flow_model.proofs.SizeLemmas.{lanes-few}
use Rattle.lane_core.specs.Lane.{EndpointIs}
use Rattle.flow_crew.specs.Sides.{HoldAtMost, SideIs}
use Rattle.flow_crew.specs.Sorted.{AreAllMarked, changed_at, more_in, with_out}
use Rattle.flow_crew.proofs.Holding.{hold_in, hold_none, hold_sent}
use Rattle.flow_crew.proofs.Sorting.{lane_sender}
use Rattle.flow_crew.proofs.Making.{mark_lane, marked_feeder, marked_first, marked_match, marked_worker}
use Rattle.flow_crew.proofs.all_endpoints.AllEndpoints.make.Goals as goal

pub overflow_cast-count : goal.overflow_cast-count
overflow_cast-count g c =
    let few = lanes-few (setup_view c.args.setup.now).job c.args.setup.now.job.lawful in
    let all = ap (λ (t : Topology). length t.lanes) c.args.setup.now.topology_is in
    omega (arith, few, c.len-count.ensures, all)

pub lane-lane-requires : goal.lane-lane-requires
lane-lane-requires g c =
    let all = ap (λ (t : Topology). length t.lanes) c.args.setup.now.topology_is in
    omega (arith, c.len-count.ensures, all, c.loop-number-test.true)

pub make_lane-requires-clause-there : goal.make_lane-requires-clause-there
make_lane-requires-clause-there g c κs up =
    let all = ap (λ (t : Topology). length t.lanes) c.args.setup.now.topology_is in
    omega (arith, c.len-count.ensures, all, c.loop-number-test.true)

pub loop-number-init : goal.loop-number-init
loop-number-init g c =
    let P : g.row.L-Tx.Denot → Type 0 = λ end. (g.L.Tx.Tx.state end).lane.capacity ≡ c.args.cap in
    record {
      sorted =
          marked_first (setup_view c.args.setup.now).job c.graph-graph.result c.workers.result c.in_ok-workers.workers.items _ c.workers.ensures.value c.in_ok-workers.ensures
          (ap (λ ts. map g.L.Tx.Tx.state ts) c.new-feeder.ensures.items);
      capacity = subst (All P) (sym c.new-feeder.ensures.items) (All-nil P);
      hold = hold_none c.args.cap c.workers.result c.in_ok-workers.workers.items c.in_ok-workers.ensures;
    }

pub add_out-requires-after_bounds : goal.add_out-requires-after_bounds
add_out-requires-after_bounds g c κs up =
    let job = (setup_view c.args.setup.now).job in
    let long : length c.deref_mut.result.now ≡ length (workers_in job) = ap (λ (xs : List SideIs). length xs) c.deref_mut.ensures.value ∙ c.loop-number.invariant.sorted.1.1.many in
    subst (λ (n : ℕ). IfSome c.lane-lane.result.sender (λ w. w < n)) (sym long) (lane_sender job c.loop-number.number c.lane-lane.result c.lane-lane.ensures.lane)

pub loop-number-preserved : goal.loop-number-preserved
loop-number-preserved g c =
    let job = (setup_view c.args.setup.now).job in
    let graph = c.graph-graph.result in
    let i = c.loop-number.number in
    let lane = c.lane-lane.result in
    let was = c.loop-number.workers in
    let middle = c.add_out.new.workers in
    let last = c.add_in.new.workers in
    let ends : List g.row.L-Tx.Denot → List EndpointIs = λ ts. map g.L.Tx.Tx.state ts in
    let old = ends c.loop-number.feeder.items in
    let new = ends c.add_out.new.feeder.items in
    let T : EndpointIs = g.L.Tx.Tx.state c.in_ok-tx.tx in
    let R : EndpointIs = g.L.Rx.Rx.state c.in_ok-tx.rx in
    let long : length middle ≡ was.len = c.add_out.auto.workers ∙ (ap (λ (xs : List SideIs). length xs) c.deref_mut.ensures.value ∙ sym was.ok.0) in
    let first : (with_items was middle).items ≡ middle = with_items_is was middle long in
    let there = c.deref_mut-in-loop-number.ensures.value ∙ first in
    let second : (with_items (with_items was middle) last).items ≡ last =
    with_items_is (with_items was middle) last (c.add_in.auto.workers ∙ (ap (λ (xs : List SideIs). length xs) there ∙ long)) in
    let marked = mark_lane job graph i c.loop-number.invariant.sorted.0 lane T R was.items old c.lane-lane.ensures.lane c.in_ok-tx.ensures.tx c.in_ok-tx.ensures.rx c.in_ok-tx.ensures.lane c.loop-number.invariant.sorted.1 in
    let m : middle ≡ with_out lane.sender (T ∷ []) was.items = c.in_ok-add_out.ensures.workers ∙ ap (with_out lane.sender (T ∷ [])) c.deref_mut.ensures.value in
    let n : last ≡ changed_at (more_in (R ∷ [])) lane.receiver middle = c.in_ok-add_in.ensures ∙ ap (changed_at (more_in (R ∷ [])) lane.receiver) there in
    let all : (with_items (with_items was middle) last).items ≡ changed_at (more_in (R ∷ [])) lane.receiver (with_out lane.sender (T ∷ []) was.items) = second ∙ (n ∙ ap (changed_at (more_in (R ∷ [])) lane.receiver) m) in record {
      sorted = (
        marked.0,
        subst (λ (xs : List SideIs). AreAllMarked job graph (i + 1) marked.0 xs new) (sym all)
            (subst (AreAllMarked job graph (i + 1) marked.0 (changed_at (more_in (R ∷ [])) lane.receiver (with_out lane.sender (T ∷ []) was.items))) (sym c.in_ok-add_out.ensures.feeder) marked.1),
      );
      capacity = c.in_ok-add_out.ensures.capacity c.args.cap c.in_ok-tx.ensures.holds c.loop-number.invariant.capacity;
      hold =
          subst (HoldAtMost c.args.cap) (sym all)
          (hold_in c.args.cap R lane.receiver (with_out lane.sender (T ∷ []) was.items) (hold_sent c.args.cap T lane.sender was.items c.in_ok-tx.ensures.holds c.loop-number.invariant.hold));
    }

pub returns-clause-workers : goal.returns-clause-workers
returns-clause-workers g c w side there =
    let job = (setup_view c.args.setup.now).job in
    let all = ap (λ (t : Topology). length t.lanes) c.args.setup.now.topology_is in
    let le : length (lanes job) ≤ c.loop-number.number = omega (arith, c.len-count.ensures, all, c.loop-number-test.false) in
    let inv = c.loop-number.invariant.sorted in
    marked_worker job c.graph-graph.result c.loop-number.number inv.0 c.loop-number.workers.items _ w side c.graph-graph.ensures.edges le inv.1 there

pub returns-clause-feeder : goal.returns-clause-feeder
returns-clause-feeder g c =
    let job = (setup_view c.args.setup.now).job in
    let all = ap (λ (t : Topology). length t.lanes) c.args.setup.now.topology_is in
    let le : length (lanes job) ≤ c.loop-number.number = omega (arith, c.len-count.ensures, all, c.loop-number-test.false) in
    let inv = c.loop-number.invariant.sorted in
    marked_feeder job c.graph-graph.result c.loop-number.number inv.0 c.loop-number.workers.items (map g.L.Tx.Tx.state c.loop-number.feeder.items) c.graph-graph.ensures.edges le inv.1

pub returns-clause-capacity : goal.returns-clause-capacity
returns-clause-capacity g c = c.loop-number.invariant.capacity

pub returns-clause-hold : goal.returns-clause-hold
returns-clause-hold g c = c.loop-number.invariant.hold

pub returns-clause-matched : goal.returns-clause-matched
returns-clause-matched g c =
    let inv = c.loop-number.invariant.sorted in
    marked_match (setup_view c.args.setup.now).job c.graph-graph.result c.loop-number.number inv.0 c.loop-number.workers.items _ inv.1

pub returns-clause-many : goal.returns-clause-many
returns-clause-many g c = c.loop-number.invariant.sorted.1.1.many
