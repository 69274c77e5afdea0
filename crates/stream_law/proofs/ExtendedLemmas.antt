-- A setup to which requests are appended begins with the setup as it was.
use Rattle.std.proofs.Common.{◌≡◌, ◌∙◌, ◌++◌, List, [], ◌∷◌, refl, sym, ap, length, take}
use Rattle.cover_planner.specs.declared.cover.Plan.{Plan}
use Rattle.versions.specs.declared.request.Request.{Request}
use Rattle.flow_model.specs.SetupView.{SetupView}
use Rattle.flow_model.specs.Planned.{extended}
use Rattle.savepoint.specs.Parts.{first_of}

take_front : {A : Type 0} (xs ys : List A) → take (length xs) (xs ++ ys) ≡ xs
take_front [] ys = refl
take_front (x ∷ xs) ys = ap (λ l. x ∷ l) (take_front xs ys)

pub first_extended : (setup : SetupView) (requests : List Request) (plans : List Plan) → length setup.plans ≡ length setup.requests → first_of (extended setup requests plans) (length setup.requests) ≡ setup
first_extended setup requests plans e =
    ap (λ (l : List Request). record setup { requests = l; plans = take (length setup.requests) (setup.plans ++ plans) }) (take_front setup.requests requests)
    ∙ ap (λ (l : List Plan). record setup { plans = l }) (ap (λ k. take k (setup.plans ++ plans)) (sym e) ∙ take_front setup.plans plans)
