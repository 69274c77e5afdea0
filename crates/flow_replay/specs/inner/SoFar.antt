-- A run between two steps of the feeder.
use Rattle.std.specs.Prelude.{◌≡◌, ◌<◌, ◌≤◌, ◌+◌, ◌++◌, ℕ, suc, Bool, true, false, All, List, []}
use Rattle.std.specs.Prelude.{◌∷◌, drop, length, map, min, nat_le, Some, slice_get}
use Rattle.std.specs.List.{list_any}
use Rattle.keyed_state.specs.Counts.{Counts}
use Rattle.sink_journal.specs.declared.journal.Entry.{Entry}
use Rattle.sink_journal.specs.declared.journal.Feed.{Feed}
use Rattle.sink_journal.specs.declared.journal.Feed.TheVariants as feed
use Rattle.tuple_trace.specs.declared.row.Row.{Row}
use Rattle.tuple_trace.specs.declared.tuple.Tuple.{Tuple}
use Rattle.flow_model.specs.Covers.{covers}
use Rattle.flow_model.specs.Feeding.{fed_puts, issued_where}
use Rattle.flow_model.specs.Fresh.{IsUpTo}
use Rattle.flow_model.specs.Law.{IsExecution, Progress, initial, progress_after}
use Rattle.flow_model.specs.SetupView.{SetupView, Worker}
use Rattle.flow_model.specs.Replay.{Put}
use Rattle.flow_model.specs.Requests.{afters, request_at}
use Rattle.flow_model.specs.Run.{Ran, ran_as}
use Rattle.flow_model.specs.Duties.{dues_after, duties}
use Rattle.flow_model.specs.Whole.{is_turn, met_tuples}
use Rattle.flow_model.specs.Workers.{nth_worker, workers_in}
use Rattle.flow_replay.specs.declared.worker_run.WorkerRun.{WorkerRun}
use Rattle.flow_replay.specs.inner.Runs.{AreInForce, IsConserved, empty_run, journal_at, nothing}
use Rattle.flow_replay.specs.inner.Runs.{run_at}
use Rattle.flow_replay.specs.Order.{TurnsInOrder}

-- how far the journal of a worker has come that has turned the first requests and nothing else
abbrev pub waiting : SetupView → Worker → ℕ → Progress
waiting setup who turned =
    record { dues = dues_after setup turned who.node; marked = []; ended = [] }

-- Everything that was fed is delivered, and the first `turned` requests are turned.
pub record IsQuiescent (setup : SetupView) (fed : List Put) (turned : ℕ) (runs : List WorkerRun)
    : Type 0 where
  pub long : length runs ≡ length (workers_in setup.job)
  pub in_force : AreInForce setup runs
  pub conserved : IsConserved setup fed runs nothing
  pub lawful :
      (w : ℕ) → w < length runs →
      IsExecution (duties setup 0 (nth_worker setup.job w))
      (initial (duties setup 0 (nth_worker setup.job w))) (journal_at runs w)
  pub waits :
      (w : ℕ) → w < length runs →
      progress_after (initial (duties setup 0 (nth_worker setup.job w))) (journal_at runs w)
      ≡ waiting setup (nth_worker setup.job w) turned

abbrev pub count_issued : List Feed → ℕ
count_issued [] = 0
count_issued (feed.Fed row ∷ more) = count_issued more
count_issued (feed.Issued request ∷ more) = suc (count_issued more)
count_issued (feed.Stopped ∷ more) = count_issued more

-- After these steps of the feeder the run is quiescent, with every issued request turned.
pub record IsSoFar (setup : SetupView) (rows : List Row) (feeds : List Feed) (issued : ℕ)
    (runs : List WorkerRun) : Type 0 where
  pub counted : count_issued feeds ≡ issued
  pub quiescent : IsQuiescent setup (fed_puts setup.job rows 0 feeds) issued runs

-- ---- which requests are issued

-- Before this row, of `rows`, the first requests were issued, and the others wait. The list has
-- the row that each waits for.
pub record AreIssuedBefore (afters : List ℕ) (rows row issued : ℕ) : Type 0 where
  pub few : issued ≤ length afters
  pub past :
      (i after : ℕ) → slice_get afters i ≡ Some after → i < issued → min after rows < row
  pub left :
      (i after : ℕ) → slice_get afters i ≡ Some after → issued ≤ i → row ≤ min after rows

-- ---- the order of rows and turns

abbrev pub has_turn : ℕ → List Entry → Bool
has_turn request journal = list_any (is_turn request) journal

-- So far, with rows up to this one: the first `turned` requests are turned in order, each after
-- its row, and no other is turned.
pub record IsSorted (setup : SetupView) (rows row turned : ℕ) (node : ℕ) (journal : List Entry)
    : Type 0 where
  pub met : All (λ (tuple : Tuple). tuple.row ≤ row) (met_tuples journal)
  pub past :
      (request : ℕ) → 0 < request → request ≤ turned → covers setup request node ≡ true →
      TurnsInOrder setup rows request journal
  pub there :
      (request : ℕ) → 0 < request → request ≤ turned → covers setup request node ≡ true →
      has_turn request journal ≡ true
  pub late :
      (request : ℕ) → 0 < request → request ≤ turned →
      (later : ℕ) → IsUpTo rows (request_at setup request) later → later ≤ row
  pub left : (request : ℕ) → turned < request → has_turn request journal ≡ false

abbrev pub AreSorted : SetupView → ℕ → ℕ → ℕ → List WorkerRun → Type 0
AreSorted setup rows row turned runs =
    (w : ℕ) → w < length runs →
    IsSorted setup rows row turned (nth_worker setup.job w).node (journal_at runs w)

-- ---- the whole

-- what a worker leaves
abbrev pub journal_of : WorkerRun → List Entry
journal_of run = run.journal

abbrev pub counts_of : WorkerRun → Counts
counts_of run = run.state.counts

-- what a run with these feeds and workers leaves
abbrev pub left_by : SetupView → List Feed → List WorkerRun → Ran
left_by setup feeds runs =
    ran_as setup feeds (map journal_of runs) (map counts_of runs)

-- nothing was done yet
pub record AreEmpty (setup : SetupView) (runs : List WorkerRun) : Type 0 where
  pub long : length runs ≡ length (workers_in setup.job)
  pub each : (w : ℕ) → w < length runs → run_at runs w ≡ empty_run

-- ---- the requests that wait for a row

-- the steps of the feeder that issue them
abbrev pub issues : SetupView → ℕ → ℕ → ℕ → List Feed
issues setup rows row issued =
    issued_where (λ after. nat_le after row) rows (issued + 1)
    (drop issued (afters setup.requests))

-- They were issued, and turned: `before` is how many were before, `now` how many are now.
pub record AreIssued (setup : SetupView) (rows row before now : ℕ) (feeds_old feeds_new : List Feed)
    (old new : List WorkerRun) : Type 0 where
  pub long : length new ≡ length old
  pub waits : AreIssuedBefore (afters setup.requests) rows (row + 1) now
  pub feeds : feeds_new ≡ feeds_old ++ issues setup rows row before
  pub far :
      (fed : List Row) → IsSoFar setup fed feeds_old before old →
      IsSoFar setup fed feeds_new now new
  pub sorted : AreSorted setup rows row before old → AreSorted setup rows row now new
