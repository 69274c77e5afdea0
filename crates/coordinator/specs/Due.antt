-- When a request is due.
use Rattle.std.specs.Prelude.{◌≡◌, ◌⊎◌, ℕ, suc, ◌<◌, ◌≤◌, ⊤, Bool, true, false, List, length, min}
use Rattle.std.specs.Prelude.{Some, slice_get}
use Rattle.tuple_trace.specs.declared.row.Row.{Row}
use Rattle.flow_model.specs.SetupView.{SetupView}
use Rattle.flow_model.specs.Requests.{afters}
use Rattle.coordinator.specs.Boxes.{LastAtLeast, LoadedBelow}
use Rattle.coordinator.specs.Views.{FeederIs}

-- the release of the request was loaded, if the feeder is live; no other feeder waits for releases
abbrev pub IsReleased : Bool → List ℕ → ℕ → Type 0
IsReleased true loads request = LastAtLeast request loads
IsReleased false loads request = ⊤

-- the next request is due: it is released and its row is fed, or all rows are fed
abbrev pub IsDue : Bool → SetupView → List Row → List ℕ → FeederIs → Type 0
IsDue live setup rows loads f =
    (after : ℕ) × (slice_get (afters setup.requests) f.issued ≡ Some after)
    × ((IsReleased live loads (suc f.issued) × (min after (length rows) ≤ f.row))
    ⊎ (length rows ≤ f.row))

-- no request is due: none is left, or rows are left and it isn't released or its row isn't fed
abbrev pub NoneIsDue : Bool → SetupView → List Row → List ℕ → FeederIs → Type 0
NoneIsDue live setup rows loads f =
    (after : ℕ) → slice_get (afters setup.requests) f.issued ≡ Some after
    → (f.row < length rows)
    × (IsReleased live loads (suc f.issued) → f.row < min after (length rows))

-- if the row of the next request is fed, this call loaded that it isn't released
abbrev pub HasHeard : SetupView → List Row → FeederIs → FeederIs → Type 0
HasHeard setup rows old new =
    (after : ℕ) → slice_get (afters setup.requests) old.issued ≡ Some after
    → min after (length rows) ≤ old.row → LoadedBelow (suc old.issued) old.loads new.loads
