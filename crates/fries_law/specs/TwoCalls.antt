-- What a call of `save` and a later call of `resume` leave over the same files.
use Rattle.std.specs.Prelude.{◌≡◌, List, Option, None, Some, IfSome, length, min}
use Rattle.jobs.specs.Job.{job_view}
use Rattle.payments.specs.Files.{Files, told_bytes}
use Rattle.payments.specs.World.{World}
use Rattle.tuple_trace.specs.declared.row.Row.{Row}
use Rattle.flow_model.specs.Record.{record_view}
use Rattle.flow_model.specs.Setup.{setup_view}
use Rattle.flow_model.specs.declared.record.RunRecord.{RunRecord}
use Rattle.fries_words.specs.Asked.{Asked, Resume, ResumeAsked, Save, SaveAsked}
use Rattle.fries_words.specs.Form.{Text}
use Rattle.fries_words.specs.Words.{asked_of}
use Rattle.live_control.specs.Asking.{AsksIs}
use Rattle.fries_steps.specs.OneRun.{AreOneRun}
use Rattle.fries_steps.specs.Reading.{AreRowsOf}
use Rattle.fries_call.specs.Answers.{Answered, Ends, outcome_as_view}
use Rattle.fries_call.specs.declared.outcome.Outcome.{Outcome}

-- A call of `fries` with words that ask for this. The clause `answers` of its contract says what it
-- left and returned; `before` and `after` are the input of releases.
pub record IsCallFor (asked : Asked) (old new : World) (outcome : Outcome) : Type 0 where
  pub words : List Text
  pub before : AsksIs
  pub after : AsksIs
  pub words_ask : asked_of words ≡ Some asked
  pub answers : IfSome (asked_of words)
      (λ found. Answered (Ends found before after) old new (outcome_as_view outcome))

-- The files are told. The second call finds the job, the requests and the payments as the first
-- call found them, and the savepoint as the first call left it. They may have other names.
pub record FindsSameFiles (first : SaveAsked) (second : ResumeAsked)
    (old new later : Option Files) : Type 0 where
  pub files : Files
  pub told : old ≡ Some files
  pub job : told_bytes later second.run.plan.job ≡ told_bytes old first.run.plan.job
  pub requests : told_bytes later second.run.plan.requests ≡ told_bytes old first.run.plan.requests
  pub payments : told_bytes later second.run.payments ≡ told_bytes old first.run.payments
  pub save : told_bytes later second.save ≡ told_bytes new first.save

-- both records are parts of one run of all rows of the payments, and joined they are consistent
pub record AreCallsOfOneRun (first : SaveAsked) (files : Option Files)
    (saved resumed : RunRecord) : Type 0 where
  pub rows : List Row
  pub of_rows : AreRowsOf files first.run.payments (job_view saved.setup.job) rows
  pub one_run : AreOneRun (setup_view resumed.setup) rows (min first.rows (length rows))
      (record_view saved) (record_view resumed)

-- where `save` ended without a fault, and `resume` ran over the same files and what `save` left,
-- what both ran is one run
abbrev pub SavedCallsAreOneRun : Type 0
SavedCallsAreOneRun =
    (first : SaveAsked) (second : ResumeAsked) (old new later end : World)
    (saved resumed : Outcome) (part rest : RunRecord) →
    IsCallFor (Save first) old new saved → saved.fault ≡ None → saved.ran ≡ Some part →
    IsCallFor (Resume second) later end resumed → resumed.ran ≡ Some rest →
    FindsSameFiles first second old.shelf.files new.shelf.files later.shelf.files →
    AreCallsOfOneRun first old.shelf.files part rest
