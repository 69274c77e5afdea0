use Rattle.std.proofs.Common.{◌≡◌, ◌∙◌, ◌+◌, ◌++◌, ◌∷◌, [], List, arith, ap}
use Rattle.std.proofs.lemmas.List.{length-map}
use Rattle.sink_journal.specs.declared.journal.Feed.{Feed}
use Rattle.sink_journal.specs.declared.journal.Feed.TheVariants.{Issued}
use Rattle.versions.specs.declared.request.Request.{Request}
use Rattle.flow_model.specs.Setup.{setup_view}
use Rattle.coordinator.proofs.Issuing.{asked_boxes_are, boxes_of, few_covered, issue_idle, issue_moved, may_post, turned_first}
use Rattle.coordinator.proofs.state.FeederState.issue_next.Goals as goal

pub are_ready-requires-clause-one_each : goal.are_ready-requires-clause-one_each
are_ready-requires-clause-one_each g c = (boxes_of _ _ _ _ _ _ c.self.view_is c.requires.law.2).one_number_each

pub are_ready-requires-clause-within : goal.are_ready-requires-clause-within
are_ready-requires-clause-within g c = (boxes_of _ _ _ _ _ _ c.self.view_is c.requires.law.2).ready_within

pub are_ready-requires-clause-few : goal.are_ready-requires-clause-few
are_ready-requires-clause-few g c =
    let setup = setup_view c.args.setup.now in
    let within = c.requires.left in
    let same : c.self.inside.issued ≡ c.args.self.now.issued = ap (λ f. f.issued) c.self.view_is in
    few_covered setup c.self.inside.begin_turned c.self.inside.issued c.self.inside.boxes (boxes_of _ _ _ _ _ _ c.self.view_is c.requires.law.2)
    (omega (arith, within, same, length-map setup.requests (λ (request : Request). request.after), c.request_count-requests.ensures, c.request_count-requests.type_inv))

pub are_ready-requires-clause-ready : goal.are_ready-requires-clause-ready
are_ready-requires-clause-ready g c = (boxes_of _ _ _ _ _ _ c.self.view_is c.requires.law.2).ready_are

pub returns-then-not-are_ready : goal.returns-then-not-are_ready
returns-then-not-are_ready g c =
    issue_idle (setup_view c.args.setup.now) _ _ c.are_ready.new.self c.reserve.new.self.items c.self.view_is (boxes_of _ _ _ _ _ _ c.self.view_is c.requires.law.2)
    c.are_ready.ensures.covered c.are_ready.ensures.boxes c.are_ready.ensures.workers_in c.are_ready.ensures.within c.are_ready.ensures.ready
    (c.are_ready.ensures.waits c.if-not-are_ready.true) c.reserve.ensures.items

pub overflow_add-request : goal.overflow_add-request
overflow_add-request g c =
    let setup = setup_view c.args.setup.now in
    let within = c.requires.left in
    let same : c.self.inside.issued ≡ c.args.self.now.issued = ap (λ f. f.issued) c.self.view_is in
    omega (arith, within, same, length-map setup.requests (λ (request : Request). request.after), c.request_count-requests.ensures, c.request_count-requests.type_inv)

pub post-requires-clause-boxes : goal.post-requires-clause-boxes
post-requires-clause-boxes g c =
    (asked_boxes_are (setup_view c.args.setup.now) c.self.inside.begin_turned c.self.inside.issued c.self.inside.boxes c.are_ready.new.self (boxes_of _ _ _ _ _ _ c.self.view_is c.requires.law.2)
    c.are_ready.ensures.covered c.are_ready.ensures.boxes c.are_ready.ensures.workers_in c.are_ready.ensures.within c.are_ready.ensures.ready).one_each

pub post-requires-clause-one_each : goal.post-requires-clause-one_each
post-requires-clause-one_each g c =
    (asked_boxes_are (setup_view c.args.setup.now) c.self.inside.begin_turned c.self.inside.issued c.self.inside.boxes c.are_ready.new.self (boxes_of _ _ _ _ _ _ c.self.view_is c.requires.law.2)
    c.are_ready.ensures.covered c.are_ready.ensures.boxes c.are_ready.ensures.workers_in c.are_ready.ensures.within c.are_ready.ensures.ready).one_number_each

pub post-requires-clause-few : goal.post-requires-clause-few
post-requires-clause-few g c =
    let setup = setup_view c.args.setup.now in
    let within = c.requires.left in
    let same : c.self.inside.issued ≡ c.args.self.now.issued = ap (λ f. f.issued) c.self.view_is in
    few_covered setup c.self.inside.begin_turned c.self.inside.issued c.are_ready.new.self
    (asked_boxes_are setup c.self.inside.begin_turned c.self.inside.issued c.self.inside.boxes c.are_ready.new.self (boxes_of _ _ _ _ _ _ c.self.view_is c.requires.law.2)
    c.are_ready.ensures.covered c.are_ready.ensures.boxes c.are_ready.ensures.workers_in c.are_ready.ensures.within c.are_ready.ensures.ready)
    (omega (arith, within, same, length-map setup.requests (λ (request : Request). request.after), c.request_count-requests.ensures, c.request_count-requests.type_inv))

pub post-requires-clause-ready : goal.post-requires-clause-ready
post-requires-clause-ready g c =
    may_post (setup_view c.args.setup.now) c.self.inside.begin_turned c.self.inside.issued c.are_ready.new.self
    (asked_boxes_are (setup_view c.args.setup.now) c.self.inside.begin_turned c.self.inside.issued c.self.inside.boxes c.are_ready.new.self (boxes_of _ _ _ _ _ _ c.self.view_is c.requires.law.2)
    c.are_ready.ensures.covered c.are_ready.ensures.boxes c.are_ready.ensures.workers_in c.are_ready.ensures.within c.are_ready.ensures.ready)
    (c.are_ready.ensures.all c.if-not-are_ready.false)

pub overflow_add-self : goal.overflow_add-self
overflow_add-self g c =
    let setup = setup_view c.args.setup.now in
    let within = c.requires.left in
    let same : c.self.inside.issued ≡ c.args.self.now.issued = ap (λ f. f.issued) c.self.view_is in
    omega (arith, within, same, length-map setup.requests (λ (request : Request). request.after), c.request_count-requests.ensures, c.request_count-requests.type_inv)

pub returns : goal.returns
returns g c =
    issue_moved (setup_view c.args.setup.now) _ _ c.are_ready.new.self c.post.new.self c.push_reserved.new.self.items c.self.view_is (boxes_of _ _ _ _ _ _ c.self.view_is c.requires.law.2) (turned_first _ _ _ _ _ _ c.self.view_is c.requires.law.2)
    c.are_ready.ensures.covered c.are_ready.ensures.boxes c.are_ready.ensures.workers_in c.are_ready.ensures.within c.are_ready.ensures.ready (c.are_ready.ensures.all c.if-not-are_ready.false)
    c.post.ensures.counted c.post.ensures.boxes c.post.ensures.loads c.post.ensures.posted c.post.ensures.ready
    (c.push_reserved.ensures.items ∙ ap (λ (fs : List Feed). fs ++ Issued (c.self.inside.issued + 1) ∷ []) c.reserve.ensures.items)
