-- What the files that a call reads are answered by.
use Rattle.std.proofs.Common.{◌≡◌, inl, inr, List, Option, Some, Ok, subst}
use Rattle.jobs.specs.JobView.{JobView}
use Rattle.job_file.specs.Job.{Excludes, HaveOneFault, IsJobIn}
use Rattle.job_file.specs.RequestFile.{requests_of}
use Rattle.payments.specs.Reading.{rows_of}
use Rattle.payments.specs.World.{World}
use Rattle.tuple_trace.specs.declared.row.Row.{Row}
use Rattle.versions.specs.declared.request.Request.{Request}
use Rattle.fries_words.specs.Asked.{PlanAsked}
use Rattle.fries_words.specs.Form.{Text}
use Rattle.fries_lines.specs.declared.fault.Fault.{Fault}
use Rattle.fries_lines.specs.declared.fault.FileIs.TheVariants as file
use Rattle.fries_steps.specs.Effects.{IsExcused}
use Rattle.fries_steps.specs.Reading.{AreNoRequests, AreNoRows, AreRequestsOf, AreRowsOf, IsJobOf, IsNoJob, RefusesJob, RefusesRequests, RefusesRows}
use Rattle.fries_steps.proofs.FileLemmas.{follows_excused, follows_read, follows_unread, no_job, no_requests, no_rows, same_job, same_requests, same_rows, sole_job, sole_requests, sole_rows, unread_excused}
use Rattle.fries_call.specs.Follows.{FollowsInputsThen, FollowsJobThen, FollowsPlanThen, FollowsRequestsThen, FollowsRowsThen}
use Rattle.fries_call.specs.Inputs.{AreInputsOf, AreNoInputs}
use Rattle.fries_call.specs.Plan.{IsNoSetup}

-- ---- files that were read

pub job_then : Excludes → (name : Text) (Then : JobView → Type 0) (old new : World) (answer : Option Fault) (job : JobView) → IsJobOf old.shelf.files name job → Then job → FollowsJobThen name Then old new answer
job_then excludes name Then old new answer job of so = record {
  file = follows_read file.Job (λ bytes. IsJobIn bytes job) RefusesJob name old new answer (no_job excludes job) of;
  later = λ other tells. subst Then (same_job old.shelf.files name job other of tells) so;
}

pub requests_then : (job : JobView) (name : Text) (Then : List Request → Type 0) (old new : World) (answer : Option Fault) (requests : List Request) → AreRequestsOf old.shelf.files name job requests → Then requests →
    FollowsRequestsThen job name Then old new answer
requests_then job name Then old new answer requests of so = record {
  file = follows_read file.Requests (λ bytes. requests_of job bytes ≡ Ok requests) (RefusesRequests job) name old new answer (no_requests job requests) of;
  later = λ other tells. subst Then (same_requests old.shelf.files name job requests other of tells) so;
}

pub rows_then : (job : JobView) (name : Text) (Then : List Row → Type 0) (old new : World) (answer : Option Fault) (rows : List Row) → AreRowsOf old.shelf.files name job rows → Then rows →
    FollowsRowsThen job name Then old new answer
rows_then job name Then old new answer rows of so = record {
  file = follows_read file.Payments (λ bytes. rows_of job bytes ≡ Ok rows) (RefusesRows job) name old new answer (no_rows job rows) of;
  later = λ other tells. subst Then (same_rows old.shelf.files name job rows other of tells) so;
}

-- what is so after the requests of a job, where its rows are looked at next
abbrev RowsAfter : Text → (JobView → List Request → List Row → Type 0) → World → World → Option Fault → JobView → List Request → Type 0
RowsAfter payments Then old new answer job requests = FollowsRowsThen job payments (Then job requests) old new answer

-- what is so after a job, where its requests are looked at next
abbrev RequestsAfter : Text → (JobView → List Request → Type 0) → World → World → Option Fault → JobView → Type 0
RequestsAfter name Then old new answer job = FollowsRequestsThen job name (Then job) old new answer

pub plan_then : Excludes → (plan : PlanAsked) (Then : JobView → List Request → Type 0) (old new : World) (answer : Option Fault) (job : JobView) (requests : List Request) → IsJobOf old.shelf.files plan.job job →
    AreRequestsOf old.shelf.files plan.requests job requests → Then job requests → FollowsPlanThen plan Then old new answer
plan_then excludes plan Then old new answer job requests of_job of_requests so =
    job_then excludes plan.job (RequestsAfter plan.requests Then old new answer) old new answer job of_job (requests_then job plan.requests (Then job) old new answer requests of_requests so)

pub inputs_then : Excludes → (plan : PlanAsked) (payments : Text) (Then : JobView → List Request → List Row → Type 0) (old new : World) (answer : Option Fault) (job : JobView) (requests : List Request) (rows : List Row) →
    AreInputsOf old.shelf.files plan payments job requests rows → Then job requests rows → FollowsInputsThen plan payments Then old new answer
inputs_then excludes plan payments Then old new answer job requests rows of so =
    plan_then excludes plan (RowsAfter payments Then old new answer) old new answer job requests of.of_job of.of_requests (rows_then job payments (Then job requests) old new answer rows of.of_rows so)

-- ---- files that weren't read; what excuses the call makes the rest so

pub no_job_then : Excludes → HaveOneFault → (name : Text) (Then : JobView → Type 0) (old between new : World) (why : Fault) → new.shelf ≡ between.shelf → IsNoJob old.shelf.files name old.shelf.faults between.shelf.faults why →
    ((job : JobView) → IsExcused old new (Some why) → Then job) → FollowsJobThen name Then old new (Some why)
no_job_then excludes have name Then old between new why same unread rest = record {
  file = follows_unread file.Job RefusesJob name old between new why (sole_job have) same unread;
  later = λ job tells. rest job (unread_excused file.Job (λ bytes. IsJobIn bytes job) RefusesJob name old between new why (no_job excludes job) tells same unread);
}

pub no_requests_then : (job : JobView) (name : Text) (Then : List Request → Type 0) (old between new : World) (why : Fault) → new.shelf ≡ between.shelf →
    AreNoRequests old.shelf.files name job old.shelf.faults between.shelf.faults why → ((requests : List Request) → IsExcused old new (Some why) → Then requests) → FollowsRequestsThen job name Then old new (Some why)
no_requests_then job name Then old between new why same unread rest = record {
  file = follows_unread file.Requests (RefusesRequests job) name old between new why (sole_requests job) same unread;
  later = λ requests tells. rest requests (unread_excused file.Requests (λ bytes. requests_of job bytes ≡ Ok requests) (RefusesRequests job) name old between new why (no_requests job requests) tells same unread);
}

pub no_rows_then : (job : JobView) (name : Text) (Then : List Row → Type 0) (old between new : World) (why : Fault) → new.shelf ≡ between.shelf →
    AreNoRows old.shelf.files name job old.shelf.faults between.shelf.faults why → ((rows : List Row) → IsExcused old new (Some why) → Then rows) → FollowsRowsThen job name Then old new (Some why)
no_rows_then job name Then old between new why same unread rest = record {
  file = follows_unread file.Payments (RefusesRows job) name old between new why (sole_rows job) same unread;
  later = λ rows tells. rest rows (unread_excused file.Payments (λ bytes. rows_of job bytes ≡ Ok rows) (RefusesRows job) name old between new why (no_rows job rows) tells same unread);
}

requests_excused : (job : JobView) (name : Text) (Then : List Request → Type 0) (old new : World) (answer : Option Fault) → IsExcused old new answer → ((requests : List Request) → Then requests) →
    FollowsRequestsThen job name Then old new answer
requests_excused job name Then old new answer excused rest =
    record { file = follows_excused file.Requests (RefusesRequests job) name old new answer excused; later = λ requests tells. rest requests }

rows_excused : (job : JobView) (name : Text) (Then : List Row → Type 0) (old new : World) (answer : Option Fault) → IsExcused old new answer → ((rows : List Row) → Then rows) → FollowsRowsThen job name Then old new answer
rows_excused job name Then old new answer excused rest =
    record { file = follows_excused file.Payments (RefusesRows job) name old new answer excused; later = λ rows tells. rest rows }

-- a call that read no job, or no requests of it
pub no_plan_then : Excludes → HaveOneFault → (plan : PlanAsked) (Then : JobView → List Request → Type 0) (old between new : World) (why : Fault) → new.shelf ≡ between.shelf →
    IsNoSetup plan old.shelf.files old.shelf.faults between.shelf.faults why → ((job : JobView) (requests : List Request) → IsExcused old new (Some why) → Then job requests) → FollowsPlanThen plan Then old new (Some why)
no_plan_then excludes have plan Then old between new why same none rest =
    elim none [
      | inl unread ↦ no_job_then excludes have plan.job (RequestsAfter plan.requests Then old new (Some why)) old between new why same unread
          (λ job excused. requests_excused job plan.requests (Then job) old new (Some why) excused (λ requests. rest job requests excused))
      | inr (job, of, unread) ↦ job_then excludes plan.job (RequestsAfter plan.requests Then old new (Some why)) old new (Some why) job of
          (no_requests_then job plan.requests (Then job) old between new why same unread (rest job))
    ]

-- a call that read no job, no requests of it, or no rows
pub no_inputs_then : Excludes → HaveOneFault → (plan : PlanAsked) (payments : Text) (Then : JobView → List Request → List Row → Type 0) (old between new : World) (why : Fault) → new.shelf ≡ between.shelf →
    AreNoInputs old.shelf.files plan payments old.shelf.faults between.shelf.faults why → ((job : JobView) (requests : List Request) (rows : List Row) → IsExcused old new (Some why) → Then job requests rows) →
    FollowsInputsThen plan payments Then old new (Some why)
no_inputs_then excludes have plan payments Then old between new why same none rest =
    elim none [
      | inl unread ↦ no_plan_then excludes have plan (RowsAfter payments Then old new (Some why)) old between new why same unread
          (λ job requests excused. rows_excused job payments (Then job requests) old new (Some why) excused (λ rows. rest job requests rows excused))
      | inr (job, requests, of_job, of_requests, unread) ↦ plan_then excludes plan (RowsAfter payments Then old new (Some why)) old new (Some why) job requests of_job of_requests
          (no_rows_then job payments (Then job requests) old between new why same unread (rest job requests))
    ]
