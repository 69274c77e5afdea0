-- What a call of the program answers, and what it leaves.
use Rattle.std.specs.Prelude.{◌≡◌, ◌⊎◌, ⊤, Option}
use Rattle.fries_words.specs.Asked.{Asked, Check, First, Help, Live, Make, Plan, Resume, Run, Save}
use Rattle.fries_words.specs.Asked.{Verify, Version}
use Rattle.fries_words.specs.Help.{help_of, version_line}
use Rattle.live_control.specs.Asking.{AsksIs}
use Rattle.payments.specs.Causes.{Faults}
use Rattle.payments.specs.World.{World}
use Rattle.fries_lines.specs.declared.fault.Fault.{Fault}
use Rattle.fries_lines.specs.declared.fault.Fault.TheVariants as fault
use Rattle.fries_steps.specs.Effects.{IsExcused, PrintsFault}
use Rattle.fries_steps.specs.FirstJob.{first_job}
use Rattle.fries_steps.specs.declared.answer.Answer.{Answer}
use Rattle.fries_call.specs.Check.{EndsCheck}
use Rattle.fries_call.specs.First.{EndsFirst}
use Rattle.fries_call.specs.Follows.{FollowsInputsThen, FollowsJobThen, FollowsPlanThen}
use Rattle.fries_call.specs.Follows.{FollowsRowsThen, IsDoneOrExcused}
use Rattle.fries_call.specs.Live.{EndsLive, FailsAsking}
use Rattle.fries_call.specs.Make.{EndsMake, FollowsMade}
use Rattle.fries_call.specs.Plan.{EndsPlan}
use Rattle.fries_call.specs.Prints.{PrintsText}
use Rattle.fries_call.specs.Resume.{EndsResume, FollowsSavepoint}
use Rattle.fries_call.specs.Run.{EndsRun}
use Rattle.fries_call.specs.Save.{EndsSave}
use Rattle.fries_call.specs.Verify.{EndsVerify, FollowsVerdict}
use Rattle.fries_call.specs.declared.outcome.Outcome.{Outcome}

-- what a call came to, but for its status
abbrev pub outcome_as_view : Outcome → Answer
outcome_as_view outcome = record {
  fault = outcome.fault;
  refused = outcome.refused;
  ran = outcome.ran;
  start = outcome.start;
}

-- what a call answers, leaves and prints that ends so: the line of its fault is printed last
pub record Answered (EndsSo : World → World → Answer → Type 0) (old new : World) (answer : Answer)
    : Type 0 where
  pub between : World
  pub ends : EndsSo old between answer
  pub prints : PrintsFault answer.fault between new

-- why words ask for nothing: they are no full form of a command and ask for neither help nor the
-- version, or memory ran out
abbrev pub IsNothingAsked : Faults → Faults → Fault → Type 0
IsNothingAsked old new why = ((why ≡ fault.Usage) ⊎ (why ≡ fault.NoMemory)) × (new ≡ old)

-- how a call ends that was asked this, before the line of its fault is printed; `was` and `now` are
-- the input of releases before and after it
abbrev pub Ends : Asked → AsksIs → AsksIs → World → World → Answer → Type 0
Ends (First asked) was now old new answer = EndsFirst asked old new answer
Ends (Check name) was now old new answer = EndsCheck name old new answer
Ends (Plan asked) was now old new answer = EndsPlan asked old new answer
Ends (Run asked) was now old new answer = EndsRun asked old new answer
Ends (Make asked) was now old new answer = EndsMake asked old new answer
Ends (Save asked) was now old new answer = EndsSave asked old new answer
Ends (Resume asked) was now old new answer = EndsResume asked old new answer
Ends (Live asked) was now old new answer = EndsLive asked was now old new answer
Ends (Verify asked) was now old new answer = EndsVerify asked old new answer
Ends (Help about) was now old new answer = PrintsText (help_of about) old new answer
Ends Version was now old new answer = PrintsText version_line old new answer

-- every call leaves the input of releases as it was, but for `live`
abbrev pub LeavesAsks : Asked → AsksIs → AsksIs → Type 0
LeavesAsks (Live asked) was now = ⊤
LeavesAsks _ was now = now ≡ was

-- what a call answers that was asked this, seen from the files that it reads
abbrev pub Follows : Asked → AsksIs → AsksIs → World → World → Option Fault → Type 0
Follows (First asked) was now old new answer =
    FollowsRowsThen (first_job asked.least) asked.payments
    (λ rows. IsDoneOrExcused old new answer) old new answer
Follows (Check name) was now old new answer =
    FollowsJobThen name (λ job. IsDoneOrExcused old new answer) old new answer
Follows (Plan asked) was now old new answer =
    FollowsPlanThen asked (λ job requests. IsDoneOrExcused old new answer) old new answer
Follows (Run asked) was now old new answer =
    FollowsInputsThen asked.plan asked.payments
    (λ job requests rows. IsDoneOrExcused old new answer) old new answer
Follows (Make asked) was now old new answer =
    FollowsJobThen asked.job (λ job. FollowsMade asked job old new answer) old new answer
Follows (Save asked) was now old new answer =
    FollowsInputsThen asked.run.plan asked.run.payments
    (λ job requests rows. IsDoneOrExcused old new answer) old new answer
Follows (Resume asked) was now old new answer =
    FollowsInputsThen asked.run.plan asked.run.payments
    (λ job requests rows. FollowsSavepoint asked job requests rows old new answer) old new answer
Follows (Live asked) was now old new answer =
    FollowsInputsThen asked.plan asked.payments
    (λ job requests rows. IsDoneOrExcused old new answer ⊎ FailsAsking was now answer)
    old new answer
Follows (Verify asked) was now old new answer =
    FollowsInputsThen asked.plan asked.payments
    (λ job requests rows. IsExcused old new answer
    ⊎ FollowsVerdict asked job requests rows old new answer) old new answer
Follows (Help about) was now old new answer = IsDoneOrExcused old new answer
Follows Version was now old new answer = IsDoneOrExcused old new answer
