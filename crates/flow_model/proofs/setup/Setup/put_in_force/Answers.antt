use Rattle.std.proofs.Common.{◌≡◌, ◌∙◌, Option, Some, List, ℕ, get_or, slice_get, sym, ap}
use Rattle.std.proofs.lemmas.Option.{get_or_from_slice_get}
use Rattle.versions.specs.declared.request.Change.{Change}
use Rattle.versions.specs.declared.request.Request.{Request}
use Rattle.flow_model.specs.SetupView.{SetupView}
use Rattle.flow_model.specs.Requests.{change_among, change_asked, change_by, request_at}
use Rattle.flow_model.specs.Setup.{setup_view}
use Rattle.flow_model.proofs.ChangeLemmas.{change-carry}
use Rattle.flow_model.specs.InForce.{counts_with}
use Rattle.flow_model.proofs.setup.Setup.put_in_force.Goals as goal

-- the change that was found is the request's of the node
found : (setup : SetupView) (request node : ℕ) (its : Request) (changes : List Change) (change it : Change) (place : ℕ) → Some its ≡ request_at setup request → changes ≡ its.changes
    → slice_get changes place ≡ Some change → change_among changes node ≡ Some change → it ≡ get_or changes place it → change_by setup request node ≡ Some it
found setup request node its changes change it place r same at among is =
    ap (λ (o : Option Request). change_asked o node) (sym r) ∙ (ap (λ cs. change_among cs node) (sym same) ∙ (among ∙ ap Some (sym (is ∙ get_or_from_slice_get changes place change it at))))

pub carry-requires : goal.carry-requires
carry-requires c =
    change-carry (setup_view c.args.self.now) c.args.request c.args.node c.index-changes-place.result c.args.self.now.accepted
    (found (setup_view c.args.self.now) c.args.request c.args.node c.in-Some.changed.now c.as_slice-changes.result.now c.in-Some-place_among.ensures.some.0 c.index-changes-place.result c.in-Some-place_among.place
    c.in-Some.ensures c.as_slice-changes.ensures c.in-Some-place_among.ensures.some.1 c.in-Some-place_among.ensures.some.2 c.index-changes-place.is)

pub returns-in-Some-place_among-clause-counts : goal.returns-in-Some-place_among-clause-counts
returns-in-Some-place_among-clause-counts c =
    c.carry.ensures ∙ ap (λ (o : Option Change). counts_with o c.args.counts.now)
    (sym (found (setup_view c.args.self.now) c.args.request c.args.node c.in-Some.changed.now c.as_slice-changes.result.now c.in-Some-place_among.ensures.some.0 c.index-changes-place.result c.in-Some-place_among.place
    c.in-Some.ensures c.as_slice-changes.ensures c.in-Some-place_among.ensures.some.1 c.in-Some-place_among.ensures.some.2 c.index-changes-place.is))
