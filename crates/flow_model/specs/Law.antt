-- The law of a journal: what may stand in it, and in which order.
use Rattle.std.specs.Prelude.{◌≡◌, ◌<◌, ℕ, Bool, List, [], ◌∷◌, Option, Some, None, All, Contains}
use Rattle.std.specs.Prelude.{IsTrue, ⊤}
use Rattle.sink_journal.specs.declared.journal.Entry.{Entry}
use Rattle.sink_journal.specs.declared.journal.Entry.TheVariants as entry
use Rattle.tuple_trace.specs.declared.tuple.Tuple.{Tuple}

-- What the law asks of a worker: its lanes in; the requests that cover it, in rising order; whether
-- it heads the cover of a request; the lanes in that bring it the marker of a request.
pub record Duties : Type 0 where
  pub lanes : List ℕ
  pub dues : List ℕ
  pub is_head : ℕ → Bool
  pub marked_lanes : ℕ → List ℕ

-- How far a journal has come: the covering requests that it hasn't turned; the lanes that showed
-- the marker of the first of these; the lanes that ended.
pub record Progress : Type 0 where
  pub dues : List ℕ
  pub marked : List ℕ
  pub ended : List ℕ

-- the first request that is still to be turned, if there is one
abbrev pub next_due : List ℕ → Option ℕ
next_due [] = None
next_due (due ∷ later) = Some due

-- the requests that are to be turned after the first
abbrev pub later_dues : List ℕ → List ℕ
later_dues [] = []
later_dues (due ∷ later) = later

-- at a head no tuple that was fed under the next due comes before its turn
abbrev pub IsInTime : Duties → Tuple → Option ℕ → Type 0
IsInTime duties tuple None = ⊤
IsInTime duties tuple (Some due) = IsTrue (duties.is_head due) → tuple.issued < due

-- the entry may come next
abbrev pub IsEnabled : Duties → Progress → Entry → Type 0
-- a tuple comes by a lane in, not between the markers of a request, and not after an end
IsEnabled duties progress (entry.Met lane tuple) =
    Contains duties.lanes lane × (progress.marked ≡ []) × (progress.ended ≡ [])
    × IsInTime duties tuple (next_due progress.dues)
-- the marker of the next due comes once on each of its lanes
IsEnabled duties progress (entry.Marked lane request) =
    (next_due progress.dues ≡ Some request) × Contains (duties.marked_lanes request) lane
    × ¬ Contains progress.marked lane × (progress.ended ≡ [])
-- the next due is turned once its markers stand on all of its lanes
IsEnabled duties progress (entry.Turned request) =
    (next_due progress.dues ≡ Some request) × All (Contains progress.marked)
    (duties.marked_lanes request) × (progress.ended ≡ [])
-- a lane ends once, after the last due was turned
IsEnabled duties progress (entry.Ended lane) =
    Contains duties.lanes lane × ¬ Contains progress.ended lane × (progress.dues ≡ [])
    × (progress.marked ≡ [])

-- how far a journal has come after one more entry
abbrev pub after_entry : Progress → Entry → Progress
after_entry progress (entry.Met lane tuple) = progress
after_entry progress (entry.Marked lane request) =
    record progress { marked = lane ∷ progress.marked }
after_entry progress (entry.Turned request) = record progress {
  dues = later_dues progress.dues;
  marked = [];
}
after_entry progress (entry.Ended lane) = record progress { ended = lane ∷ progress.ended }

-- how far a journal has come after these entries
abbrev pub progress_after : Progress → List Entry → Progress
progress_after progress [] = progress
progress_after progress (entry ∷ more) = progress_after (after_entry progress entry) more

-- each entry may come after those before it
abbrev pub IsExecution : Duties → Progress → List Entry → Type 0
IsExecution duties progress [] = ⊤
IsExecution duties progress (entry ∷ more) = IsEnabled duties progress entry
    × IsExecution duties (after_entry progress entry) more

-- how far a journal has come before its first entry: nothing is turned, marked or ended
abbrev pub initial : Duties → Progress
initial duties = record { dues = duties.dues; marked = []; ended = [] }

-- the journal is lawful so far
pub record IsLawfulJournal (duties : Duties) (journal : List Entry) : Type 0 where
  pub execution : IsExecution duties (initial duties) journal
  -- no marker stands there without its turn
  pub no_open_turn : (progress_after (initial duties) journal).marked ≡ []

-- the journal is finished: lawful so far, and every lane in has ended
pub record IsFinished (duties : Duties) (journal : List Entry) : Type 0 where
  pub lawful : IsLawfulJournal duties journal
  pub ended : All (Contains (progress_after (initial duties) journal).ended) duties.lanes
