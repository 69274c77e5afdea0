-- What a call of `live` runs, and how it ends.
use Rattle.std.specs.Prelude.{◌≡◌, ◌⊎◌, List, Option, None, Some}
use Rattle.jobs.specs.JobView.{JobView}
use Rattle.payments.specs.Files.{Files}
use Rattle.payments.specs.World.{World}
use Rattle.tuple_trace.specs.Counts.{Rose}
use Rattle.tuple_trace.specs.declared.row.Row.{Row}
use Rattle.versions.specs.declared.request.Request.{Request}
use Rattle.fries_words.specs.Asked.{RunAsked}
use Rattle.live_control.specs.Asking.{AsksIs}
use Rattle.fries_lines.specs.declared.fault.Fault.{Fault}
use Rattle.fries_lines.specs.declared.fault.Fault.TheVariants as fault
use Rattle.fries_lines.specs.declared.fault.FileIs.TheVariants as file
use Rattle.fries_steps.specs.Outcomes.{EndsAfterRun, StopsFor}
use Rattle.fries_steps.specs.Live.{IsLiveRun, live_fault, live_lines}
use Rattle.fries_steps.specs.Running.{files_written}
use Rattle.fries_steps.specs.declared.answer.Answer.{Answer}
use Rattle.fries_steps.specs.declared.live.LiveDone.{LiveDone}
use Rattle.fries_call.specs.Inputs.{AreInputsOf, AreNoInputs}

-- what was run live is what the files hold
pub record IsLiveRunOfFiles (asked : RunAsked) (files : Option Files) (was now : AsksIs)
    (live : LiveDone) : Type 0 where
  pub job : JobView
  pub requests : List Request
  pub rows : List Row
  pub of_files : AreInputsOf files asked.plan asked.payments job requests rows
  pub run : IsLiveRun job requests rows was now live

-- the call stopped before a run was done; it left the input, unless memory ran out
pub record StopsLive (asked : RunAsked) (was now : AsksIs) (old new : World) (answer : Answer)
    : Type 0 where
  pub stops : StopsFor (AreNoInputs old.shelf.files asked.plan asked.payments) old new answer
  pub asks : (now ≡ was) ⊎ (answer.fault ≡ Some fault.NoMemory)

-- the call ran live what the files hold, and came to storing its files and printing its lines; a
-- fault of the input comes after all that
pub record RunsLive (asked : RunAsked) (was now : AsksIs) (old new : World) (answer : Answer)
    : Type 0 where
  pub live : LiveDone
  pub is_so : IsLiveRunOfFiles asked old.shelf.files was now live
  pub written : Option Fault
  pub outcome :
      EndsAfterRun (files_written asked.alerts (Some asked.audit) None live.done)
      (live_lines live) old
      new written
  pub fault_is : answer.fault ≡ live_fault live.heard.failed written
  pub refused : answer.refused ≡ live.done.refused
  pub ran : answer.ran ≡ Some live.done.ran
  pub start : answer.start ≡ None

-- how a call of `live` ends, before the line of its fault is printed
abbrev pub EndsLive : RunAsked → AsksIs → AsksIs → World → World → Answer → Type 0
EndsLive asked was now old new answer =
    StopsLive asked was now old new answer ⊎ RunsLive asked was now old new answer

-- the answer is that of an input that failed, and the input counted a failure
abbrev pub FailsAsking : AsksIs → AsksIs → Option Fault → Type 0
FailsAsking was now answer = (answer ≡ Some (fault.Read file.Asks)) × Rose was.faults now.faults
