use Rattle.std.proofs.Common.{◌≡◌, ◌<◌, ◌∙◌, Some, List, get_or, length, slice_get, subst, sym}
use Rattle.std.proofs.lemmas.Option.{slice_get-get_or}
use Rattle.cover_planner.specs.declared.cover.Plan.{Plan}
use Rattle.flow_model.specs.Dues.{edges_in}
use Rattle.flow_model.specs.Setup.{setup_view}
use Rattle.flow_model.specs.Workers.{nth_worker}
use Rattle.flow_model.proofs.DueLemmas.{bit_told, due_here, dues_skip}
use Rattle.flow_model.proofs.setup.Setup.due_after.Goals as goal

pub returns-then-covers_node : goal.returns-then-covers_node
returns-then-covers_node c =
    let setup = setup_view c.args.self.now in
    let node = (nth_worker setup.job c.args.worker).node in
    let plans : List Plan = c.as_slice-plans.result.now in
    let i = c.loop-place.place in
    let plan : Plan = get_or plans i _ in
    let same = c.as_slice-plans.ensures in
    due_here setup node c.args.last i (edges_in setup.job c.args.worker) plan c.due_of.result
    (subst (λ (ps : List Plan). slice_get ps i ≡ Some plan) same (slice_get-get_or plans i _ c.loop-place-test.true))
    (subst (λ (ps : List Plan). i < length ps) same c.loop-place-test.true) c.loop-place.auto.place c.loop-place.invariant
    (sym (bit_told c.covers_node.result plan.nodes c.node_of-node.result node c.covers_node.ensures c.node_of-node.ensures.at) ∙ c.if-covers_node.true)
    c.due_of.ensures.request c.due_of.ensures.head c.due_of.ensures.cover c.due_of.ensures.lanes

pub loop-place-preserved : goal.loop-place-preserved
loop-place-preserved c =
    let setup = setup_view c.args.self.now in
    let node = (nth_worker setup.job c.args.worker).node in
    let plans : List Plan = c.as_slice-plans.result.now in
    let i = c.loop-place.place in
    let plan : Plan = get_or plans i _ in
    let same = c.as_slice-plans.ensures in
    dues_skip setup node c.args.last i plan
    (subst (λ (ps : List Plan). slice_get ps i ≡ Some plan) same (slice_get-get_or plans i _ c.loop-place-test.true))
    (sym (bit_told c.covers_node.result plan.nodes c.node_of-node.result node c.covers_node.ensures c.node_of-node.ensures.at) ∙ c.if-covers_node.false)
    (subst (λ (ps : List Plan). i < length ps) same c.loop-place-test.true) c.loop-place.invariant
