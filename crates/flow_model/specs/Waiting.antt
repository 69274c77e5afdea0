-- Requests that wait for other rows.
use Rattle.std.specs.Prelude.{ℕ, List, [], ◌∷◌}
use Rattle.versions.specs.declared.request.Request.{Request}
use Rattle.flow_model.specs.SetupView.{SetupView}

-- the first requests wait for these rows
abbrev pub with_afters : List ℕ → List Request → List Request
with_afters [] requests = requests
with_afters (after ∷ later) [] = []
with_afters (after ∷ later) (request ∷ more) =
    record request { after = after } ∷ with_afters later more

-- a setup whose requests wait for these rows
abbrev pub waiting_for : List ℕ → SetupView → SetupView
waiting_for afters setup = record setup { requests = with_afters afters setup.requests }
