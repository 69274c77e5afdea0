-- The cells of a record of six, and the workers that they name.
use Rattle.std.specs.Prelude.{◌≡◌, ℕ, List, [], ◌∷◌, Some, decimal, slice_get}
use Rattle.jobs.specs.JobView.{JobView}
use Rattle.audit_laws.specs.Names.{Named, named_workers}
use Rattle.audit_check.specs.declared.records.Six.{Six}

abbrev pub cells_of : Six → List (List ℕ)
cells_of six =
    six.entry.now ∷ six.node.now ∷ six.worker.now ∷ six.lane.now ∷ six.number.now ∷ six.extra.now
    ∷ []

-- The record names this worker.
abbrev pub IsNamed : Six → Named → Type 0
IsNamed six x = (x.node ≡ six.node.now) × (decimal x.place ≡ six.worker.now)

abbrev pub named_as : List ℕ → ℕ → Named
named_as node place = record { node = node; place = place }

-- The worker with this number has this name and this place, as cells spell them.
abbrev pub NamesWorker : JobView → List ℕ → List ℕ → ℕ → Type 0
NamesWorker job node place w =
    (x : Named) × (slice_get (named_workers job.nodes) w ≡ Some x) × (x.node ≡ node)
    × (decimal x.place ≡ place)

abbrev pub AreEmpty : List ℕ → List ℕ → List ℕ → Type 0
AreEmpty one two three = (one ≡ []) × (two ≡ []) × (three ≡ [])
