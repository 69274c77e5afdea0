-- What the requests of a setup change.
use Rattle.std.specs.Prelude.{ℕ, zero, suc, ◌==◌, Bool, false, List, [], ◌∷◌, map, Option, Some}
use Rattle.std.specs.Prelude.{None, slice_get, if◌then◌else◌}
use Rattle.jobs.specs.declared.func.Func.{Func}
use Rattle.versions.specs.Book.{is_named}
use Rattle.versions.specs.declared.request.Change.{Change}
use Rattle.versions.specs.declared.request.Request.{Request}
use Rattle.flow_model.specs.SetupView.{SetupView}

-- a request; they are counted from 1, so there is no request 0
abbrev pub request_at : SetupView → ℕ → Option Request
request_at setup zero = None
request_at setup (suc r) = slice_get setup.requests r

-- the change of a node among these
abbrev pub change_among : List Change → ℕ → Option Change
change_among [] node = None
change_among (change ∷ more) node = if change.node == node then Some change
    else change_among more node

-- the change of a node by this request, if there is one
abbrev pub change_asked : Option Request → ℕ → Option Change
change_asked None node = None
change_asked (Some request) node = change_among request.changes node

-- the change of a node by a request
abbrev pub change_by : SetupView → ℕ → ℕ → Option Change
change_by setup request node = change_asked (request_at setup request) node

-- there is a request, and it changes the node
abbrev pub names : Option Request → ℕ → Bool
names None node = false
names (Some request) node = is_named request.changes node

-- the request changes the node
abbrev pub changes : SetupView → ℕ → ℕ → Bool
changes setup request node = names (request_at setup request) node

-- the function after a change: as before if there is no change
abbrev pub func_with : Option Change → Func → Func
func_with None func = func
func_with (Some change) func = change.func

-- the function of a node, given at first, after the first r requests
abbrev pub func_after : SetupView → ℕ → Func → ℕ → Func
func_after setup node func zero = func
func_after setup node func (suc r) = func_with (change_by setup (suc r) node)
    (func_after setup node func r)

-- the rows that the requests wait for
abbrev pub afters : List Request → List ℕ
afters requests = map (λ (request : Request). request.after) requests
