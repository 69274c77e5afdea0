use Rattle.std.proofs.Common.{◌≡◌, ◌∙◌, ◌<◌, ◌==◌, ℕ, List, length, map, refl, sym, ap, subst, arith}
use Rattle.std.proofs.lemmas.List.{length-map}
use Rattle.std.proofs.lemmas.Simd.{map-map}
use Rattle.flow_model.specs.Dues.{IsDueAfter, edges_in}
use Rattle.flow_model.specs.InForce.{func_in}
use Rattle.flow_model.specs.Lanes.{is_sender, lanes}
use Rattle.flow_model.specs.Setup.{setup_view}
use Rattle.flow_model.specs.Workers.{nth_worker}
use Rattle.flow_model.specs.declared.topology.Lane.{Lane}
use Rattle.flow_model.specs.declared.topology.WorkerAt.{WorkerAt}
use Rattle.flow_model.proofs.FewLanes.{few_lanes}
use Rattle.flow_model.proofs.WorkerPlaces.{get-nth_worker}
use Rattle.flow_worker.specs.Pairs.{EachOne}
use Rattle.flow_worker.specs.Parts.{endpoint_in, endpoint_out}
use Rattle.lane_core.specs.Lane.{EndpointIs}
use Rattle.flow_model.specs.NewEndpoint.{IsNewEndpoint}
use Rattle.flow_worker.proofs.Beginning.{begins_from, lanes_there, new_hands, new_waiting, stands}
use Rattle.flow_worker.proofs.worker.Worker.begin.Goals as goal

pub new_ins-ins-requires-clause-numbers : goal.new_ins-ins-requires-clause-numbers
new_ins-ins-requires-clause-numbers g c κs up =
    let F : g.row.L-Rx.Denot → EndpointIs = g.L.Rx.Rx.state in
    sym (map-map (λ (end : EndpointIs). end.number) F c.args.ins.items) ∙ (c.requires.ends.ins_are ∙ sym c.lanes_in.ensures)

pub new_ins-ins-requires-clause-there : goal.new_ins-ins-requires-clause-there
new_ins-ins-requires-clause-there g c κs up =
    let job = (setup_view c.args.who.setup.now).job in
    subst (EachOne (λ (n : ℕ). n < length (lanes job))) (sym c.lanes_in.ensures) (lanes_there (λ (lane : Lane). lane.receiver == c.args.who.number) job)

pub new_outs-outs-requires-clause-numbers : goal.new_outs-outs-requires-clause-numbers
new_outs-outs-requires-clause-numbers g c κs up =
    let F : g.row.L-Tx.Denot → EndpointIs = g.L.Tx.Tx.state in
    sym (map-map (λ (end : EndpointIs). end.number) F c.args.outs.items) ∙ (c.requires.ends.outs_are ∙ sym c.lanes_out.ensures)

pub new_outs-outs-requires-clause-there : goal.new_outs-outs-requires-clause-there
new_outs-outs-requires-clause-there g c κs up =
    let job = (setup_view c.args.who.setup.now).job in
    subst (EachOne (λ (n : ℕ). n < length (lanes job))) (sym c.lanes_out.ensures) (lanes_there (λ (lane : Lane). is_sender c.args.who.number lane.sender) job)

pub new-requires-2-clause-few : goal.new-requires-2-clause-few
new-requires-2-clause-few g c κs up =
    let job = (setup_view c.args.who.setup.now).job in
    let F : g.row.L-Rx.Denot → EndpointIs = g.L.Rx.Rx.state in
    let ins = c.new_ins-ins.result.items in
    let long : length ins ≡ length c.args.ins.items = sym (length-map ins endpoint_in) ∙ (ap (λ (xs : List EndpointIs). length xs) c.new_ins-ins.ensures.ends ∙ length-map c.args.ins.items F) in
    let all = ap (λ (xs : List ℕ). length xs) c.requires.ends.ins_are in
    let each = length-map (map F c.args.ins.items) (λ (end : EndpointIs). end.number) in
    let ends = length-map c.args.ins.items F in
    let few = few_lanes job c.args.who.number (nth_worker job c.args.who.number) c.args.who.setup.now.job.lawful (get-nth_worker job c.args.who.number c.args.who.there) in
    omega (arith, long, all, each, ends, few)

pub new-requires-2-clause-hands : goal.new-requires-2-clause-hands
new-requires-2-clause-hands g c κs up = c.new_ins-ins.ensures.hands

pub returns-clause-law : goal.returns-clause-law
returns-clause-law g c begin s =
    let setup = setup_view c.args.who.setup.now in
    let job = setup.job in
    let who = nth_worker job c.args.who.number in
    let at = c.worker_at-at.ensures.at in
    let F : g.row.L-Rx.Denot → EndpointIs = g.L.Rx.Rx.state in
    let G : g.row.L-Tx.Denot → EndpointIs = g.L.Tx.Tx.state in
    let ins = c.new_ins-ins.result.items in
    let outs = c.new_outs-outs.result.items in
    let long_in : length ins ≡ length c.args.ins.items = sym (length-map ins endpoint_in) ∙ (ap (λ (xs : List EndpointIs). length xs) c.new_ins-ins.ensures.ends ∙ length-map c.args.ins.items F) in
    let long_out : length outs ≡ length c.args.outs.items = sym (length-map outs endpoint_out) ∙ (ap (λ (xs : List EndpointIs). length xs) c.new_outs-outs.ensures.ends ∙ length-map c.args.outs.items G) in
    let node = ap (λ (at : WorkerAt). at.node) at in
    rw (c.new-2.ensures, c.new-3.ensures) (begins_from setup begin who _
    (stands setup who _ (map F c.args.ins.items) (map G c.args.outs.items) c.args.who.setup.now.job.lawful
    (record {
      stands = record {
        who_is = get-nth_worker job c.args.who.number c.args.who.there;
        node_is = node;
        place_is = ap (λ (at : WorkerAt). at.place) at;
      };
      on_lanes = c.new_ins-ins.ensures.edges;
      outs_on_lanes = c.new_outs-outs.ensures.edges;
      next = refl;
      room_in = let a = c.in_ok-spare_ins.ensures.capacity in let b = c.len-2.ensures in let d = c.args.ins.ok.0 in omega (arith, long_in, a, b, d);
      room_out = let a = c.in_ok-spare_outs.ensures.capacity in let b = c.len-4.ensures in let d = c.args.outs.ok.0 in omega (arith, long_out, a, b, d);
    })
    c.requires.ends c.new_ins-ins.ensures.ends c.new_outs-outs.ensures.ends)
    (record {
      begun = c.args.beginning.state.counts;
      begun_is = s.begun_is;
      journal = c.new.ensures;
      func = ap (λ (n : ℕ). func_in setup n c.args.beginning.state.func) node ∙ s.func_is;
      counts = refl;
      last = s.last_is;
      due = subst (λ (n : ℕ). IsDueAfter setup n (edges_in job c.args.who.number) begin.turned c.due_after-due.result) (sym node)
          (subst (λ (r : ℕ). IsDueAfter setup who.node (edges_in job c.args.who.number) r c.due_after-due.result) s.turned_is c.due_after-due.ensures);
      turned = c.requires.owner;
      closed = refl;
      taken = new_hands job c.requires.ends.graph ins (subst (EachOne (IsNewEndpoint job c.requires.ends.graph)) (sym c.new_ins-ins.ensures.ends) c.requires.ends.new_in) c.new_ins-ins.ensures.hands;
      sent = new_waiting job c.requires.ends.graph outs (subst (EachOne (IsNewEndpoint job c.requires.ends.graph)) (sym c.new_outs-outs.ensures.ends) c.requires.ends.new_out) c.new_outs-outs.ensures.waiting;
    }))
