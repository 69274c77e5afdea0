-- What an executor does.
use Rattle.std.specs.Prelude.{◌≡◌, ◌+◌, ◌-◌, ◌++◌, ℕ, List, [], ◌∷◌, length, replicate}
use Rattle.sink_journal.specs.declared.journal.Feed.TheVariants as feed
use Rattle.tuple_trace.specs.declared.row.Row.{Row}
use Rattle.jobs.specs.Job.{job_view}
use Rattle.flow_model.specs.declared.setup.Setup.{Setup}
use Rattle.flow_model.specs.Feeding.{feed_after, feed_from}
use Rattle.flow_model.specs.Requests.{afters}
use Rattle.flow_model.specs.Run.{Ran, ran_as}
use Rattle.flow_model.specs.Setup.{setup_view}
use Rattle.flow_model.specs.SetupView.{SetupView}
use Rattle.flow_model.specs.Workers.{workers_in}
use Rattle.flow_replay.specs.declared.executor.Executor.{Executor}
use Rattle.flow_replay.specs.declared.executor.Left.{Left}
use Rattle.flow_replay.specs.declared.worker_run.WorkerRun.{WorkerRun}
use Rattle.flow_replay.specs.inner.Runs.{AllGain, empty_run, end_block}
use Rattle.flow_replay.specs.inner.SoFar.{AreIssuedBefore, AreSorted, IsSoFar, left_by}

-- it has done nothing
pub record IsNew (setup : Setup) (executor : Executor) : Type 0 where
  pub setup_is : executor.setup.now ≡ setup
  pub runs_are : executor.runs.items ≡ replicate
      (length (workers_in (job_view setup.job))) empty_run
  pub feeds_are : executor.feeds ≡ []
  pub issued_is : executor.issued ≡ 0

-- all but its workers is as before
pub record SameBesideRuns (old new : Executor) : Type 0 where
  pub setup_is : new.setup.now ≡ old.setup.now
  pub feeds_are : new.feeds ≡ old.feeds
  pub issued_is : new.issued ≡ old.issued

-- what a run by this setup left, as the definitions see it
abbrev pub left_view : SetupView → Left → Ran
left_view setup left = ran_as setup left.feeds left.journals left.states

-- all workers and the feeder ended, and this is what they left
pub record HasLeft (old : Executor) (left : Left) : Type 0 where
  pub runs : List WorkerRun
  pub ended : AllGain (setup_view old.setup.now) (end_block
      (setup_view old.setup.now).job) old.runs.items runs
  pub left_is : left_view (setup_view old.setup.now) left
      ≡ left_by (setup_view old.setup.now) (old.feeds ++ feed.Stopped ∷ []) runs

-- the rows up to this one are fed, and the requests that wait for them issued
pub record HasFed (kept : Setup) (rows : List Row) (row : ℕ) (e : Executor) : Type 0 where
  pub same : e.setup.now ≡ kept
  pub waits : AreIssuedBefore (afters (setup_view kept).requests) (length rows) (row + 1) e.issued
  pub far : IsSoFar (setup_view kept) rows e.feeds e.issued e.runs.items
  pub sorted : AreSorted (setup_view kept) (length rows) row e.issued e.runs.items
  pub feeds :
      e.feeds
      ++ feed_after (afters (setup_view kept).requests) 1 row (length rows) (length rows - row)
      ≡ feed_from 0 0 (afters (setup_view kept).requests) (length rows)
