-- What the feeder does to the boxes of the workers.
use Rattle.std.specs.Prelude.{◌≡◌, ℕ, true, ◌+◌, ◌-◌, ◌<◌, ◌≤◌, List, [], ◌∷◌, ◌++◌, length, Some}
use Rattle.std.specs.Prelude.{slice_get, if◌then◌else◌}
use Rattle.control_box.specs.Endpoints.{HasShownReady, PosterIs}
use Rattle.flow_model.specs.Covers.{covers, is_head}
use Rattle.flow_model.specs.SetupView.{SetupView}
use Rattle.flow_model.specs.Workers.{workers_in}
use Rattle.coordinator.specs.Numbers.{node_at, covering_count, posted_number}
use Rattle.coordinator.specs.Views.{BoxesIs}

-- the last of the loads is at least this number
abbrev pub LastAtLeast : ℕ → List ℕ → Type 0
LastAtLeast number loads =
    (earlier : List ℕ) × (load : ℕ) × (loads ≡ earlier ++ load ∷ []) × (number ≤ load)

-- the loads grew by one, below this number
abbrev pub LoadedBelow : ℕ → List ℕ → List ℕ → Type 0
LoadedBelow number old new = (load : ℕ) × (new ≡ old ++ load ∷ []) × (load < number)

-- they are the same boxes
abbrev pub SameBoxes : List PosterIs → List PosterIs → Type 0
SameBoxes old new =
    (length new ≡ length old)
    × ((w : ℕ) (p q : PosterIs) → slice_get old w ≡ Some p → slice_get new w ≡ Some q
    → q.within ≡ p.within)

abbrev pub SamePosts : List PosterIs → List PosterIs → Type 0
SamePosts old new =
    (w : ℕ) (p q : PosterIs) → slice_get old w ≡ Some p → slice_get new w ≡ Some q
    → q.posted ≡ p.posted

abbrev pub SameLoads : List PosterIs → List PosterIs → Type 0
SameLoads old new =
    (w : ℕ) (p q : PosterIs) → slice_get old w ≡ Some p → slice_get new w ≡ Some q
    → q.loads ≡ p.loads

-- the first k boxes have shown last that their workers turned this number of covering requests
abbrev pub AreReady : List ℕ → ℕ → List PosterIs → Type 0
AreReady covered k posters =
    (w n : ℕ) (p : PosterIs) → w < k → slice_get covered w ≡ Some n → slice_get posters w ≡ Some p
    → LastAtLeast n p.loads

-- the box at this place loaded that its worker turned fewer covering requests
abbrev pub IsUnready : List ℕ → ℕ → List PosterIs → List PosterIs → Type 0
IsUnready covered k old new =
    (n : ℕ) × (p : PosterIs) × (q : PosterIs) × (slice_get covered k ≡ Some n)
    × (slice_get old k ≡ Some p) × (slice_get new k ≡ Some q) × LoadedBelow n p.loads q.loads

-- the numbers once this request is counted at each worker that it covers
abbrev pub AreCountedWith : SetupView → ℕ → List ℕ → List ℕ → Type 0
AreCountedWith setup request old new =
    (length new ≡ length old)
    × ((w m n : ℕ) → slice_get old w ≡ Some m → slice_get new w ≡ Some n
    → n ≡ (if covers setup request (node_at setup w) then m + 1 else m))

-- each box has shown that its worker turned this many covering requests, and has no later post
abbrev pub AreReached : List ℕ → List PosterIs → Type 0
AreReached covered posters =
    (w n : ℕ) (p : PosterIs) → slice_get covered w ≡ Some n → slice_get posters w ≡ Some p
    → HasShownReady (n + 1) p.loads × (p.posted ≤ n)

-- the request may be posted to each worker of its heads, under these numbers
abbrev pub MayPost : SetupView → ℕ → List ℕ → List PosterIs → Type 0
MayPost setup request covered posters =
    (w n : ℕ) (p : PosterIs) → is_head setup request (node_at setup w) ≡ true
    → slice_get covered w ≡ Some n → slice_get posters w ≡ Some p
    → HasShownReady n p.loads × (p.posted < n)

-- the request is posted to each worker of its heads, under these numbers, and to no other worker
abbrev pub ArePosted : SetupView → ℕ → List ℕ → List PosterIs → List PosterIs → Type 0
ArePosted setup request covered old new =
    (w n : ℕ) (p q : PosterIs) → slice_get covered w ≡ Some n → slice_get old w ≡ Some p
    → slice_get new w ≡ Some q
    → q.posted ≡ (if is_head setup request (node_at setup w) then n else p.posted)

-- The boxes once these requests are issued. How many of them cover each worker is known. Each box
-- has the number of the last of them that its worker heads. The first boxes are ready for the next
-- request.
pub record AreBoxes (setup : SetupView) (turned issued : ℕ) (boxes : BoxesIs) : Type 0 where
  pub one_each : length boxes.posters ≡ length (workers_in setup.job)
  pub one_number_each : length boxes.covered ≡ length boxes.posters
  pub counted :
      (w n : ℕ) → slice_get boxes.covered w ≡ Some n → n ≡ covering_count setup turned w issued
  pub posted :
      (w : ℕ) (p : PosterIs) → slice_get boxes.posters w ≡ Some p
      → p.posted ≡ posted_number setup turned w issued
  pub ready_within : boxes.ready ≤ length boxes.posters
  pub ready_are : AreReady boxes.covered boxes.ready boxes.posters

-- a worker hasn't turned all requests so far that cover it, as its box loaded
abbrev pub SomeBelow : SetupView → ℕ → ℕ → List PosterIs → List PosterIs → Type 0
SomeBelow setup turned issued old new =
    (w : ℕ) × (p : PosterIs) × (q : PosterIs) × (slice_get old w ≡ Some p)
    × (slice_get new w ≡ Some q)
    × LoadedBelow (covering_count setup turned w issued) p.loads q.loads

-- A request is issued: the last load of each box shows that its worker turned all earlier requests
-- that cover it. The request is posted to each worker of its heads, under its number there, and to
-- no other worker.
abbrev pub AsIssued : SetupView → ℕ → ℕ → List PosterIs → List PosterIs → Type 0
AsIssued setup turned request old new =
    (w : ℕ) (p q : PosterIs) → slice_get old w ≡ Some p → slice_get new w ≡ Some q →
    LastAtLeast (covering_count setup turned w (request - 1)) q.loads
    × (q.posted ≡ (if is_head setup request (node_at setup w)
    then covering_count setup turned w request else p.posted))
