-- A list of requests, judged in order.
use Rattle.std.specs.Prelude.{◌≡◌, ℕ, ◌+◌, ◌<◌, All, length, List, [], ◌∷◌, Option, Some, None}
use Rattle.jobs.specs.JobView.{JobView}
use Rattle.versions.specs.declared.book.Current.{Current}
use Rattle.versions.specs.declared.in_order.Judged.{Judged}
use Rattle.versions.specs.declared.request.Change.{Change}
use Rattle.versions.specs.declared.request.Request.{Request}
use Rattle.versions.specs.declared.fault.QFault.{QFault}
use Rattle.versions.specs.Book.{accepted, first_book}
use Rattle.versions.specs.Judging.{fault_within}

-- the judging of one more request, which is accepted, before the later ones
abbrev pub accepting : Request → Judged → Judged
accepting request later = record { accepted = request ∷ later.accepted; refused = later.refused }

-- the judging of one more request, which is refused at this place, before the later ones
abbrev pub refusing : ℕ → QFault → Judged → Judged
refusing place fault later = record {
  accepted = later.accepted;
  refused = (record { place = place; fault = fault }) ∷ later.refused;
}

-- the one answer with a fault, the other without
abbrev pub by_fault : Option QFault → (QFault → Judged) → Judged → Judged
by_fault None refused accepted = accepted
by_fault (Some fault) refused accepted = refused fault

-- The requests from this place on, with this book and the row of the latest accepted request. One
-- with a fault is refused, and leaves both as they were; any other is accepted, gives its nodes
-- their new functions and the next versions, and is the latest. If there is a mask, only its nodes
-- may be splits.
unfoldable pub judged_from : Option ℕ → JobView → List Current → ℕ → ℕ → List Request → Judged
judged_from splits job book last_after place [] = record { accepted = []; refused = [] }
judged_from splits job book last_after place (request ∷ rest) =
    by_fault (fault_within splits book job request last_after)
    (λ fault. refusing place fault (judged_from splits job book last_after (place + 1) rest))
    (accepting request
    (judged_from splits job (accepted book request.changes) request.after (place + 1) rest))

-- the judging of a list of requests if only the nodes of the mask may be splits
abbrev pub judged_within : Option ℕ → JobView → List Request → Judged
judged_within splits job requests = judged_from splits job (first_book job.nodes) 0 1 requests

-- the judging of a list of requests
abbrev pub judged : JobView → List Request → Judged
judged job requests = judged_within None job requests

-- judging these requests alone refuses none of them
abbrev pub AreAccepted : JobView → List Request → Type 0
AreAccepted job requests = (judged job requests).refused ≡ []

-- every change of the requests names a node of the job
abbrev pub NameNodes : JobView → List Request → Type 0
NameNodes job requests =
    All (λ (request : Request). All (λ (change : Change). change.node < length job.nodes)
    request.changes) requests
