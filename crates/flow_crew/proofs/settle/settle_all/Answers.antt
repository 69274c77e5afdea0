use Rattle.std.proofs.Common.{◌≡◌, ◌∙◌, ◌<◌, ◌+◌, ◌-◌, ℕ, List, ap, sym, subst, arith, length, map}
use Rattle.std.proofs.lemmas.List.{with_items_is}
use Rattle.std.specs.Prelude.{IfSome}
use Rattle.std.specs.Vec.{with_items}
use Rattle.flow_model.specs.Setup.{setup_view}
use Rattle.flow_model.specs.Workers.{workers_in}
use Rattle.flow_model.specs.declared.topology.Topology.{Topology}
use Rattle.flow_model.proofs.SizeLemmas.{lanes-few}
use Rattle.lane_core.specs.Lane.{EndpointIs}
use Rattle.flow_crew.specs.Sides.{SideIs, ins_at, outs_at}
use Rattle.flow_crew.proofs.Settling.{IsSettling, again, last_two, none_of, one_lane, rx_there, settling_first, settling_next, tx_there}
use Rattle.flow_crew.proofs.Sorting.{lane_sender}
use Rattle.flow_crew.proofs.settle.settle_all.Goals as goal

pub overflow_cast-number : goal.overflow_cast-number
overflow_cast-number g c =
    let few = lanes-few (setup_view c.args.setup.now).job c.args.setup.now.job.lawful in
    let all = ap (λ (t : Topology). length t.lanes) c.args.setup.now.topology_is in
    omega (arith, few, c.len-number.ensures, all)

pub loop-number-init : goal.loop-number-init
loop-number-init g c =
    let all = ap (λ (t : Topology). length t.lanes) c.args.setup.now.topology_is in
    settling_first (setup_view c.args.setup.now).job c.args.sides.items
    (map g.L.Tx.Tx.state c.args.feeder.items)
    c.len-number.result (omega (arith, all, c.len-number.ensures)) c.requires.lanes

pub lane-lane-requires : goal.lane-lane-requires
lane-lane-requires g c = omega (arith, c.loop-number.invariant.within, c.loop-number-test.true)

pub take_out-requires-after_bounds : goal.take_out-requires-after_bounds
take_out-requires-after_bounds g c κs up =
    let job = (setup_view c.args.setup.now).job in
    let long : length c.deref_mut.result.now ≡ length (workers_in job) = ap (λ (xs : List SideIs). length xs) c.deref_mut.ensures.value ∙ c.loop-number.invariant.sorted.many in
    subst (λ (n : ℕ). IfSome c.lane-lane.result.sender (λ w. w < n)) (sym long) (lane_sender job (c.loop-number.number - 1) c.lane-lane.result c.lane-lane.ensures.lane)

pub unreachable-requires : goal.unreachable-requires
unreachable-requires g c =
    let job = (setup_view c.args.setup.now).job in
    let ends : List g.row.L-Tx.Denot → List EndpointIs = λ ts. map g.L.Tx.Tx.state ts in
    let all = c.args.sides.items in
    let fed = ends c.args.feeder.items in
    let n = c.loop-number.number - 1 in
    let lane = c.lane-lane.result in
    let was = c.loop-number.sides in
    let before = ends c.loop-number.feeder.items in
    let one : c.loop-number.number ≡ n + 1 = omega (arith, c.loop-number-test.true) in
    let settling : IsSettling job all fed (n + 1) was.items before = again job all fed c.loop-number.number (n + 1) was.items before one c.loop-number.invariant in
    let none = none_of c.take_out.result c.in_default.not-Some c.take_out.ensures.none in
    tx_there job all fed n lane was.items before c.lane-lane.ensures.lane settling (ap (λ (xs : List SideIs). outs_at lane.sender xs before) (sym c.deref_mut.ensures.value) ∙ none)

pub unreachable-requires-in_default-take_in : goal.unreachable-requires-in_default-take_in
unreachable-requires-in_default-take_in g c =
    let job = (setup_view c.args.setup.now).job in
    let ends : List g.row.L-Tx.Denot → List EndpointIs = λ ts. map g.L.Tx.Tx.state ts in
    let all = c.args.sides.items in
    let fed = ends c.args.feeder.items in
    let n = c.loop-number.number - 1 in
    let lane = c.lane-lane.result in
    let was = c.loop-number.sides in
    let before = ends c.loop-number.feeder.items in
    let one : c.loop-number.number ≡ n + 1 = omega (arith, c.loop-number-test.true) in
    let settling : IsSettling job all fed (n + 1) was.items before = again job all fed c.loop-number.number (n + 1) was.items before one c.loop-number.invariant in
    let middle = c.take_out.new.sides in
    let left = ends c.take_out.new.feeder.items in
    let T : EndpointIs = g.L.Tx.Tx.state c.in-Some.tx in
    let a = sym c.deref_mut.ensures.value ∙ c.in-Some.ensures.sides in
    let b = c.in-Some.ensures.feeder in
    let long : length middle ≡ was.len = c.take_out.auto.sides ∙ (ap (λ (xs : List SideIs). length xs) c.deref_mut.ensures.value ∙ sym was.ok.0) in
    let first : (with_items was middle).items ≡ middle = with_items_is was middle long in
    let there : c.deref_mut-in-loop-number.result.now ≡ middle = c.deref_mut-in-loop-number.ensures.value ∙ first in
    let none = none_of c.take_in.result c.in_default-take_in.not-Some c.take_in.ensures.none in
    rx_there job all fed n lane T was.items middle before left c.lane-lane.ensures.lane settling a b (ap (λ (xs : List SideIs). ins_at lane.receiver xs) (sym there) ∙ none)

pub settle-requires : goal.settle-requires
settle-requires g c =
    let job = (setup_view c.args.setup.now).job in
    let ends : List g.row.L-Tx.Denot → List EndpointIs = λ ts. map g.L.Tx.Tx.state ts in
    let all = c.args.sides.items in
    let fed = ends c.args.feeder.items in
    let n = c.loop-number.number - 1 in
    let lane = c.lane-lane.result in
    let was = c.loop-number.sides in
    let before = ends c.loop-number.feeder.items in
    let one : c.loop-number.number ≡ n + 1 = omega (arith, c.loop-number-test.true) in
    let settling : IsSettling job all fed (n + 1) was.items before = again job all fed c.loop-number.number (n + 1) was.items before one c.loop-number.invariant in
    let middle = c.take_out.new.sides in
    let left = ends c.take_out.new.feeder.items in
    let T : EndpointIs = g.L.Tx.Tx.state c.in-Some.tx in
    let a = sym c.deref_mut.ensures.value ∙ c.in-Some.ensures.sides in
    let b = c.in-Some.ensures.feeder in
    let long : length middle ≡ was.len = c.take_out.auto.sides ∙ (ap (λ (xs : List SideIs). length xs) c.deref_mut.ensures.value ∙ sym was.ok.0) in
    let first : (with_items was middle).items ≡ middle = with_items_is was middle long in
    let there : c.deref_mut-in-loop-number.result.now ≡ middle = c.deref_mut-in-loop-number.ensures.value ∙ first in
    let now = c.take_in.new.sides in
    let R : EndpointIs = g.L.Rx.Rx.state c.in-Some-take_in.rx in
    let d = sym there ∙ c.in-Some-take_in.ensures.some in
    let last = last_two job all fed n lane T R was.items middle now before left c.lane-lane.ensures.lane settling a b d in
    one_lane job all fed n lane T R now left c.requires.matched last

pub loop-number-preserved : goal.loop-number-preserved
loop-number-preserved g c =
    let job = (setup_view c.args.setup.now).job in
    let ends : List g.row.L-Tx.Denot → List EndpointIs = λ ts. map g.L.Tx.Tx.state ts in
    let all = c.args.sides.items in
    let fed = ends c.args.feeder.items in
    let n = c.loop-number.number - 1 in
    let lane = c.lane-lane.result in
    let was = c.loop-number.sides in
    let before = ends c.loop-number.feeder.items in
    let one : c.loop-number.number ≡ n + 1 = omega (arith, c.loop-number-test.true) in
    let settling : IsSettling job all fed (n + 1) was.items before = again job all fed c.loop-number.number (n + 1) was.items before one c.loop-number.invariant in
    let middle = c.take_out.new.sides in
    let left = ends c.take_out.new.feeder.items in
    let T : EndpointIs = g.L.Tx.Tx.state c.in-Some.tx in
    let a = sym c.deref_mut.ensures.value ∙ c.in-Some.ensures.sides in
    let b = c.in-Some.ensures.feeder in
    let long : length middle ≡ was.len = c.take_out.auto.sides ∙ (ap (λ (xs : List SideIs). length xs) c.deref_mut.ensures.value ∙ sym was.ok.0) in
    let first : (with_items was middle).items ≡ middle = with_items_is was middle long in
    let there : c.deref_mut-in-loop-number.result.now ≡ middle = c.deref_mut-in-loop-number.ensures.value ∙ first in
    let now = c.take_in.new.sides in
    let R : EndpointIs = g.L.Rx.Rx.state c.in-Some-take_in.rx in
    let d = sym there ∙ c.in-Some-take_in.ensures.some in
    let last = last_two job all fed n lane T R was.items middle now before left c.lane-lane.ensures.lane settling a b d in
    let second : (with_items (with_items was middle) now).items ≡ now =
    with_items_is (with_items was middle) now (c.take_in.auto.sides ∙ (ap (λ (xs : List SideIs). length xs) there ∙ long)) in
    subst (λ (xs : List SideIs). IsSettling job all fed n xs left) (sym second)
    (settling_next job all fed n lane T R was.items now before left _ c.lane-lane.ensures.lane settling last c.in_ok-settle.ensures)
