-- What a call of `first` runs, and how it ends.
use Rattle.std.specs.Prelude.{◌≡◌, ◌⊎◌, ◌<◌, ◌≤◌, ℕ, true, false, List, [], ◌∷◌, Option, None, Some}
use Rattle.std.specs.Prelude.{length, slice_get}
use Rattle.payments.specs.Files.{Files}
use Rattle.sink_journal.specs.declared.journal.Entry.{Entry}
use Rattle.tuple_trace.specs.declared.row.Row.{Row}
use Rattle.flow_model.specs.Record.{record_view}
use Rattle.flow_model.specs.Whole.{after_turn, before_turn, meets_row}
use Rattle.flow_replay.specs.Order.{IsInOrder}
use Rattle.fries_words.specs.Asked.{FirstAsked}
use Rattle.fries_steps.specs.Outcomes.{StopsFor}
use Rattle.fries_steps.specs.FirstJob.{first_job, first_request}
use Rattle.fries_steps.specs.SetupFor.{AreSame}
use Rattle.payments.specs.World.{World}
use Rattle.fries_steps.specs.Reading.{AreNoRows, AreRowsOf}
use Rattle.fries_steps.specs.Running.{IsRunOf, Runs}
use Rattle.fries_steps.specs.declared.answer.Answer.{Answer}
use Rattle.fries_steps.specs.declared.running.Done.{Done}

-- ---- the run

-- the journal met the row before the turn of the request and not after
pub record IsMetBefore (journal : List Entry) (request row : ℕ) : Type 0 where
  pub before : meets_row row (before_turn request journal) ≡ true
  pub after : meets_row row (after_turn request journal) ≡ false

-- the journal met the row after the turn of the request and not before
pub record IsMetAfter (journal : List Entry) (request row : ℕ) : Type 0 where
  pub before : meets_row row (before_turn request journal) ≡ false
  pub after : meets_row row (after_turn request journal) ≡ true

-- the rows up to `last` are met before the turn of the request, and the later ones
-- after it
pub record TurnsAfterRow (journal : List Entry) (request last rows : ℕ) : Type 0 where
  pub old : (row : ℕ) → 1 ≤ row → row ≤ rows → row ≤ last → IsMetBefore journal request row
  pub new : (row : ℕ) → row ≤ rows → last < row → IsMetAfter journal request row

-- The rows of the payments file were run, and the one request, which is accepted. What it covers
-- turned behind the row that it waits for and before every later one. So the worker of `big`, which
-- is worker 0, met the rows up to `after` before the turn, and all others after it.
pub record IsRunOfFirst (asked : FirstAsked) (files : Option Files) (done : Done) : Type 0 where
  pub rows : List Row
  pub of_rows : AreRowsOf files asked.payments (first_job asked.least) rows
  pub run : IsRunOf AreSame false (first_job asked.least)
      (first_request asked.after asked.least_after ∷ []) rows done
  pub accepted : done.refused ≡ []
  pub order : IsInOrder (length rows) (record_view done.ran)
  pub turns : (journal : List Entry) → slice_get done.ran.journals 0 ≡ Some journal
      → TurnsAfterRow journal 1 asked.after (length rows)

-- ---- how it ends

-- how a call of `first` ends, before the line of its fault is printed
abbrev pub EndsFirst : FirstAsked → World → World → Answer → Type 0
EndsFirst asked old new answer =
    StopsFor (AreNoRows old.shelf.files asked.payments (first_job asked.least)) old new answer
    ⊎ Runs (IsRunOfFirst asked old.shelf.files) asked.alerts None None None old new answer
