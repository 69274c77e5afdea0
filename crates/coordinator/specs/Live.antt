-- What a live feeder waits for, what it loads, and what it keeps from the beginning of a run on.
use Rattle.std.specs.Prelude.{◌≡◌, ◌⊎◌, ℕ, zero, suc, ◌<◌, ◌≤◌, ⊤, All, Contains, false, List, []}
use Rattle.std.specs.Prelude.{◌∷◌, ◌++◌}
use Rattle.sink_journal.specs.declared.journal.Feed.{Feed}
use Rattle.sink_journal.specs.declared.journal.Feed.TheVariants as feed
use Rattle.coordinator.specs.Boxes.{LastAtLeast}
use Rattle.coordinator.specs.Views.{FeederIs}

-- The rows that the requests wait for if the first `released` are released. A request that isn't
-- released waits for the last row.
abbrev pub released_rows : ℕ → ℕ → List ℕ → List ℕ
released_rows released rows [] = []
released_rows zero rows (after ∷ later) = rows ∷ released_rows zero rows later
released_rows (suc released) rows (after ∷ later) = after ∷ released_rows released rows later

-- A turn loads how many requests are released, unless earlier loads show that all are.
abbrev pub Hears : ℕ → ℕ → List ℕ → List ℕ → Type 0
Hears requests released old new =
    ((new ≡ old) × (requests ≤ released)
    × ((r : ℕ) → 0 < r → r ≤ released → LastAtLeast r old))
    ⊎ ((new ≡ old ++ released ∷ []) × All (λ load. load ≤ released) old)

-- how many rows a feed feeds
abbrev pub fed_in : List Feed → ℕ
fed_in [] = 0
fed_in (feed.Fed row ∷ more) = suc (fed_in more)
fed_in (feed.Issued request ∷ more) = fed_in more
fed_in (feed.Stopped ∷ more) = fed_in more

-- a feed that hasn't stopped: its rows and requests follow these in the order of their numbers
abbrev pub AreNumbered : ℕ → ℕ → List Feed → Type 0
AreNumbered row issued [] = ⊤
AreNumbered row issued (feed.Fed number ∷ more) =
    (number ≡ suc row) × AreNumbered (suc row) issued more
AreNumbered row issued (feed.Issued request ∷ more) =
    (request ≡ suc issued) × AreNumbered row (suc issued) more
AreNumbered row issued (feed.Stopped ∷ more) = ⊥

-- a feeder that began at the first row
pub record IsFromFirst (f : FeederIs) : Type 0 where
  pub row_first : f.begin_row ≡ 0
  pub turned_first : f.begin_turned ≡ 0
  pub row_is : f.row ≡ fed_in f.feeds
  pub numbered : f.stopped ≡ false → AreNumbered 0 0 f.feeds

-- the last load shows the release of each request that is issued before the last row
abbrev pub AreHeard : List ℕ → List Feed → Type 0
AreHeard loads feeds =
    (before after : List Feed) (r n : ℕ) → feeds ≡ before ++ feed.Issued r ∷ after
    → Contains after (feed.Fed n) → LastAtLeast r loads
