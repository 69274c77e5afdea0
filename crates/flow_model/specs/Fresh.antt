-- How late a request comes into force at the heads of what it covers.
use Rattle.std.specs.Prelude.{◌≡◌, ◌<◌, ◌≤◌, ℕ, All, IsTrue, ⊤, List, [], ◌∷◌, min, Option, Some}
use Rattle.std.specs.Prelude.{None, slice_get}
use Rattle.sink_journal.specs.declared.journal.Entry.{Entry}
use Rattle.sink_journal.specs.declared.journal.Entry.TheVariants as entry
use Rattle.tuple_trace.specs.declared.tuple.Tuple.{Tuple}
use Rattle.versions.specs.declared.request.Request.{Request}
use Rattle.flow_model.specs.SetupView.{SetupView, Worker}
use Rattle.flow_model.specs.Law.{Progress, after_entry, initial, next_due}
use Rattle.flow_model.specs.Requests.{request_at}
use Rattle.flow_model.specs.Covers.{covers, is_head}
use Rattle.flow_model.specs.Run.{Ran}
use Rattle.flow_model.specs.Duties.{duties}
use Rattle.flow_model.specs.Whole.{before_turn, met_tuples}
use Rattle.flow_model.specs.Workers.{workers_in}

-- the row is at most the one after which the request is issued, which is the last of `rows` rows at
-- the latest
abbrev pub IsUpTo : ℕ → Option Request → ℕ → Type 0
IsUpTo rows None row = ⊥
IsUpTo rows (Some request) row = row ≤ min request.after rows

-- if a head's next due is a request, a tuple that it meets is of a row up to the one after which
-- that is issued
abbrev pub IsFreshUnder : SetupView → ℕ → Worker → Option ℕ → Tuple → Type 0
IsFreshUnder setup rows who None tuple = ⊤
IsFreshUnder setup rows who (Some due) tuple = IsTrue (is_head setup due who.node)
    → IsUpTo rows (request_at setup due) tuple.row

-- a tuple that the entry meets is in time for the next due; other entries always are
abbrev pub IsFreshAt : SetupView → ℕ → Worker → Progress → Entry → Type 0
IsFreshAt setup rows who progress (entry.Met lane tuple) =
    IsFreshUnder setup rows who (next_due progress.dues) tuple
IsFreshAt setup rows who progress (entry.Marked lane request) = ⊤
IsFreshAt setup rows who progress (entry.Turned request) = ⊤
IsFreshAt setup rows who progress (entry.Ended lane) = ⊤

-- each tuple is met in time, from this progress on
abbrev pub AreFreshFrom : SetupView → ℕ → Worker → Progress → List Entry → Type 0
AreFreshFrom setup rows who progress [] = ⊤
AreFreshFrom setup rows who progress (entry ∷ more) =
    IsFreshAt setup rows who progress entry × AreFreshFrom setup rows who
    (after_entry progress entry) more

-- each worker meets its tuples in time
abbrev pub IsFresh : ℕ → Ran → Type 0
IsFresh rows ran =
    (w : ℕ) (who : Worker) (journal : List Entry)
    → slice_get (workers_in ran.setup.job) w ≡ Some who
    → slice_get ran.journals w ≡ Some journal →
    AreFreshFrom ran.setup rows who (initial (duties ran.setup 0 who)) journal

-- every request before this one that covers the worker covers it as a head
abbrev pub IsHeadBefore : SetupView → ℕ → Worker → Type 0
IsHeadBefore setup request who = (earlier : ℕ) → earlier < request
    → IsTrue (covers setup earlier who.node) → IsTrue (is_head setup earlier who.node)

-- at a head of a request whose workers were only heads before, each tuple that is met before the
-- turn is of a row up to the one after which the request is issued
abbrev pub IsFreshBefore : ℕ → Ran → Type 0
IsFreshBefore rows ran =
    (w request : ℕ) (who : Worker) (journal : List Entry)
    → slice_get (workers_in ran.setup.job) w ≡ Some who
    → slice_get ran.journals w ≡ Some journal →
    IsTrue (is_head ran.setup request who.node) → IsHeadBefore ran.setup request who →
    All (λ (tuple : Tuple). IsUpTo rows (request_at ran.setup request) tuple.row)
    (met_tuples (before_turn request journal))
