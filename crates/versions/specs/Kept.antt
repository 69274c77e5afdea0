-- What accepted requests keep of a job.
use Rattle.std.specs.Prelude.{◌≡◌, ◌≤◌, ⊤, ℕ, All, IsTrue, List, [], ◌∷◌, Some, None, slice_get}
use Rattle.keyed_state.specs.Counts.{CanCarry}
use Rattle.jobs.specs.Limits.{oversize}
use Rattle.jobs.specs.JobView.{JobView}
use Rattle.jobs.specs.declared.func.NodeDef.{NodeDef}
use Rattle.versions.specs.Judging.{leaves_once, may_replace}
use Rattle.versions.specs.declared.request.Change.{Change}
use Rattle.versions.specs.declared.request.Request.{Request}

-- the new function may replace the one that the job gives the node: it is of its kind and counts by
-- the same key, or both are of free kinds and one edge leaves the node; and its fan-out is at most
-- the node's roof
abbrev pub KeepsKind : JobView → Change → Type 0
KeepsKind job change =
    (node : NodeDef) → slice_get job.nodes change.node ≡ Some node →
    IsTrue (may_replace node.func change.func node.roof (leaves_once job.edges change.node))

-- each change of the requests keeps the kind of its node
abbrev pub KeepKinds : JobView → List Request → Type 0
KeepKinds job requests = All (λ (request : Request). All (KeepsKind job) request.changes) requests

-- each request waits for this row or a later one, and for no earlier row than the request before it
abbrev pub AreInOrder : ℕ → List Request → Type 0
AreInOrder row [] = ⊤
AreInOrder row (request ∷ later) = (row ≤ request.after) × AreInOrder request.after later

-- a change carries counts over, and divides them by 1 or more, if it divides them
abbrev pub CarriesWell : Request → Type 0
CarriesWell request = All (λ (change : Change). CanCarry change.carry) request.changes

-- each request carries counts as it may
abbrev pub CarryWell : List Request → Type 0
CarryWell requests = All CarriesWell requests

-- the new functions of the requests are within the limits of a job's functions
abbrev pub HaveLimits : List Request → Type 0
HaveLimits requests =
    All (λ (request : Request).
    All (λ (change : Change). oversize change.func ≡ None) request.changes) requests
