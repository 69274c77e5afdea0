use Rattle.std.proofs.Common.{◌≡◌, ◌∙◌, ◌<◌, List, get_or, length, arith, ap}
use Rattle.std.specs.FinMap.{empty}
use Rattle.std.proofs.lemmas.List.{get_or_read}
use Rattle.keyed_state.specs.Counts.{Counts}
use Rattle.flow_model.specs.Begin.{Begin}
use Rattle.flow_model.specs.Setup.{setup_view}
use Rattle.flow_replay.proofs.StartLemmas.{begins}
use Rattle.flow_replay.proofs.replaying.begun_state.Goals as goal

pub returns : goal.returns
returns c =
    let w = c.args.who.number in
    let states : List Counts = c.args.start.now.states in
    let found : Counts = c.index-as_slice-who.result in
    let from = ap (λ (b : Begin). b.turned) c.start.view_is in
    let same = c.as_slice.ensures ∙ ap (λ (b : Begin). b.states) c.start.view_is in
    let within : w < length states = omega (arith, c.args.who.there, c.requires) in
    let read : found ≡ get_or states w found =
    c.index-as_slice-who.is ∙ ap (λ (xs : List Counts). get_or xs w found) same in
    begins (setup_view c.args.who.setup.now) c.args.start.now w c.node.result
    c.start.inside.turned c.last_covering.result c.in_force_after.result c.in_ok-counts.counts
    c.args.who.there c.node.ensures.at from c.in_force_after.ensures
    c.last_covering.ensures
    (c.in_ok-counts.ensures ∙ get_or_read states w found within read empty)
