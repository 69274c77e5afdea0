-- Requests that wait for other rows.
use Rattle.std.specs.Prelude.{List, map}
use Rattle.versions.specs.declared.request.Change.{Change}
use Rattle.versions.specs.declared.request.Request.{Request}

-- the changes of each request
abbrev pub changes_of : List Request → List (List Change)
changes_of requests = map (λ (request : Request). request.changes) requests
