-- What the files of each command are answered by, but for those of `resume` and `verify`.
use Rattle.std.proofs.Common.{◌≡◌, ◌⊎◌, ◌∙◌, inl, inr, ℕ, Bool, true, false, List, Option, None, Some, Ok, Err, refl, sym, ap, subst}
use Rattle.jobs.specs.JobView.{JobView}
use Rattle.job_file.specs.Job.{Excludes, HaveOneFault}
use Rattle.payments.specs.Made.{made_rows}
use Rattle.payments.specs.World.{World}
use Rattle.payments.specs.declared.read.PFault.{PFault}
use Rattle.tuple_trace.specs.Counts.{Rose}
use Rattle.tuple_trace.specs.declared.row.Row.{Row}
use Rattle.versions.specs.declared.request.Request.{Request}
use Rattle.fries_words.specs.Asked.{FirstAsked, MakeAsked, PlanAsked, RunAsked, SaveAsked}
use Rattle.fries_words.specs.Form.{Text}
use Rattle.live_control.specs.Asking.{AsksIs}
use Rattle.fries_lines.specs.Lines.{sizes_line}
use Rattle.fries_lines.specs.declared.fault.Fault.{Fault}
use Rattle.fries_lines.specs.declared.fault.Fault.TheVariants as fault
use Rattle.fries_steps.specs.Effects.{FileText, IsExcused, PrintsFault}
use Rattle.fries_steps.specs.FirstJob.{first_job}
use Rattle.fries_steps.specs.Live.{live_fault, live_lines}
use Rattle.fries_steps.specs.Outcomes.{EndsAfterRun, StopsFor}
use Rattle.fries_steps.specs.Running.{files_written, made_lines, run_lines}
use Rattle.fries_steps.specs.declared.answer.Answer.{Answer}
use Rattle.fries_steps.proofs.FileLemmas.{done_or_excused, ran_or_excused}
use Rattle.fries_call.specs.Check.{EndsCheck}
use Rattle.fries_call.specs.First.{EndsFirst}
use Rattle.fries_call.specs.Follows.{FollowsInputsThen, FollowsJobThen, FollowsPlanThen, FollowsRowsThen, IsDoneOrExcused}
use Rattle.fries_call.specs.Inputs.{AreNoInputs}
use Rattle.fries_call.specs.Live.{EndsLive, FailsAsking}
use Rattle.fries_call.specs.Make.{EndsMake, FollowsMade, MakesNoRows}
use Rattle.fries_call.specs.Plan.{EndsPlan, setup_lines}
use Rattle.fries_call.specs.Prints.{PrintsText}
use Rattle.fries_call.specs.Run.{EndsRun}
use Rattle.fries_call.specs.Save.{EndsSave}
use Rattle.fries_call.proofs.FollowLemmas.{inputs_then, job_then, no_inputs_then, no_job_then, no_plan_then, no_rows_then, plan_then, rows_then}

pub follows_check : Excludes → HaveOneFault → (name : Text) (old between new : World) (answer : Answer) → EndsCheck name old between answer → PrintsFault answer.fault between new →
    FollowsJobThen name (λ job. IsDoneOrExcused old new answer.fault) old new answer.fault
follows_check excludes have name old between new answer ends prints =
    elim ends [
      | inl s ↦ subst (λ (x : Answer). FollowsJobThen name (λ job. IsDoneOrExcused old new x.fault) old new x.fault) (sym s.answer_is)
          (no_job_then excludes have name (λ job. IsDoneOrExcused old new (Some s.why)) old between new s.why prints.shelf s.cause (λ job excused. inr excused))
      | inr (job, of, p) ↦ job_then excludes name (λ other. IsDoneOrExcused old new answer.fault) old new answer.fault job of
          (done_or_excused (sizes_line job) old between new answer.fault p.lines.prints prints)
    ]

pub follows_first : (asked : FirstAsked) (old between new : World) (answer : Answer) → EndsFirst asked old between answer → PrintsFault answer.fault between new →
    FollowsRowsThen (first_job asked.least) asked.payments (λ rows. IsDoneOrExcused old new answer.fault) old new answer.fault
follows_first asked old between new answer ends prints =
    let job = first_job asked.least in
    elim ends [
      | inl s ↦ subst (λ (x : Answer). FollowsRowsThen job asked.payments (λ rows. IsDoneOrExcused old new x.fault) old new x.fault) (sym s.answer_is)
          (no_rows_then job asked.payments (λ rows. IsDoneOrExcused old new (Some s.why)) old between new s.why prints.shelf s.cause (λ rows excused. inr excused))
      | inr r ↦ rows_then job asked.payments (λ rows. IsDoneOrExcused old new answer.fault) old new answer.fault r.is_so.rows r.is_so.of_rows
          (ran_or_excused (files_written asked.alerts None None r.done) (run_lines r.done) old between new answer.fault r.outcome prints)
    ]

pub follows_plan : Excludes → HaveOneFault → (asked : PlanAsked) (old between new : World) (answer : Answer) → EndsPlan asked old between answer → PrintsFault answer.fault between new →
    FollowsPlanThen asked (λ job requests. IsDoneOrExcused old new answer.fault) old new answer.fault
follows_plan excludes have asked old between new answer ends prints =
    elim ends [
      | inl s ↦ subst (λ (x : Answer). FollowsPlanThen asked (λ job requests. IsDoneOrExcused old new x.fault) old new x.fault) (sym s.answer_is)
          (no_plan_then excludes have asked (λ job requests. IsDoneOrExcused old new (Some s.why)) old between new s.why prints.shelf s.cause (λ job requests excused. inr excused))
      | inr p ↦ plan_then excludes asked (λ job requests. IsDoneOrExcused old new answer.fault) old new answer.fault p.of_files.job p.of_files.requests p.of_files.of_job p.of_files.of_requests
          (done_or_excused (setup_lines p.setup) old between new answer.fault p.lines.prints prints)
    ]

-- ---- runs of what the files hold

-- a call that stopped before a run
stops_then : Excludes → HaveOneFault → (plan : PlanAsked) (payments : Text) (Then : Option Fault → JobView → List Request → List Row → Type 0) (old between new : World) (answer : Answer) →
    StopsFor (AreNoInputs old.shelf.files plan payments) old between answer → new.shelf ≡ between.shelf →
    ((why : Fault) (job : JobView) (requests : List Request) (rows : List Row) → IsExcused old new (Some why) → Then (Some why) job requests rows) → FollowsInputsThen plan payments (Then answer.fault) old new answer.fault
stops_then excludes have plan payments Then old between new answer s same rest =
    subst (λ (x : Answer). FollowsInputsThen plan payments (Then x.fault) old new x.fault) (sym s.answer_is)
    (no_inputs_then excludes have plan payments (Then (Some s.why)) old between new s.why same s.cause (rest s.why))

pub follows_run : Excludes → HaveOneFault → (asked : RunAsked) (old between new : World) (answer : Answer) → EndsRun asked old between answer → PrintsFault answer.fault between new →
    FollowsInputsThen asked.plan asked.payments (λ job requests rows. IsDoneOrExcused old new answer.fault) old new answer.fault
follows_run excludes have asked old between new answer ends prints =
    elim ends [
      | inl s ↦ stops_then excludes have asked.plan asked.payments (λ x job requests rows. IsDoneOrExcused old new x) old between new answer s prints.shelf (λ why job requests rows excused. inr excused)
      | inr r ↦
          let of = r.is_so in
          inputs_then excludes asked.plan asked.payments (λ job requests rows. IsDoneOrExcused old new answer.fault) old new answer.fault of.job of.requests of.rows of.of_files
          (ran_or_excused (files_written asked.alerts (Some asked.audit) None r.done) (run_lines r.done) old between new answer.fault r.outcome prints)
    ]

pub follows_save : Excludes → HaveOneFault → (asked : SaveAsked) (old between new : World) (answer : Answer) → EndsSave asked old between answer → PrintsFault answer.fault between new →
    FollowsInputsThen asked.run.plan asked.run.payments (λ job requests rows. IsDoneOrExcused old new answer.fault) old new answer.fault
follows_save excludes have asked old between new answer ends prints =
    elim ends [
      | inl s ↦ stops_then excludes have asked.run.plan asked.run.payments (λ x job requests rows. IsDoneOrExcused old new x) old between new answer s prints.shelf (λ why job requests rows excused. inr excused)
      | inr r ↦
          let of = r.is_so in
          inputs_then excludes asked.run.plan asked.run.payments (λ job requests rows. IsDoneOrExcused old new answer.fault) old new answer.fault of.job of.requests of.rows of.of_files
          (ran_or_excused (files_written asked.run.alerts (Some asked.run.audit) (Some asked.save) r.done) (run_lines r.done) old between new answer.fault r.outcome prints)
    ]

-- ---- runs with releases

-- a call that was done, is excused, or whose input failed
abbrev IsDoneLive : AsksIs → AsksIs → World → World → Option Fault → Type 0
IsDoneLive was now old new answer = IsDoneOrExcused old new answer ⊎ FailsAsking was now answer

written_live : (texts : List FileText) (lines : List ℕ) (old between new : World) (written answer : Option Fault) → answer ≡ written → EndsAfterRun texts lines old between written → PrintsFault answer between new →
    IsDoneOrExcused old new answer
written_live texts lines old between new written answer is outcome prints = ran_or_excused texts lines old between new answer (subst (EndsAfterRun texts lines old between) (sym is) outcome) prints

ran_live : (texts : List FileText) (lines : List ℕ) (was now : AsksIs) (old between new : World) (failed : Bool) (written answer : Option Fault) → answer ≡ live_fault failed written
    → (failed ≡ true → Rose was.faults now.faults) → EndsAfterRun texts lines old between written → PrintsFault answer between new → IsDoneLive was now old new answer
ran_live texts lines was now old between new true (Some why) answer is rose outcome prints = inl (written_live texts lines old between new (Some why) answer is outcome prints)
ran_live texts lines was now old between new true None answer is rose outcome prints = inr (is, rose refl)
ran_live texts lines was now old between new false (Some why) answer is rose outcome prints = inl (written_live texts lines old between new (Some why) answer is outcome prints)
ran_live texts lines was now old between new false None answer is rose outcome prints = inl (written_live texts lines old between new None answer is outcome prints)

pub follows_live : Excludes → HaveOneFault → (asked : RunAsked) (was now : AsksIs) (old between new : World) (answer : Answer) → EndsLive asked was now old between answer → PrintsFault answer.fault between new →
    FollowsInputsThen asked.plan asked.payments (λ job requests rows. IsDoneLive was now old new answer.fault) old new answer.fault
follows_live excludes have asked was now old between new answer ends prints =
    elim ends [
      | inl s ↦ stops_then excludes have asked.plan asked.payments (λ x job requests rows. IsDoneLive was now old new x) old between new answer s.stops prints.shelf (λ why job requests rows excused. inl (inr excused))
      | inr r ↦
          let of = r.is_so in
          inputs_then excludes asked.plan asked.payments (λ job requests rows. IsDoneLive was now old new answer.fault) old new answer.fault of.job of.requests of.rows of.of_files
          (ran_live (files_written asked.alerts (Some asked.audit) None r.live.done) (live_lines r.live) was now old between new r.live.heard.failed r.written answer.fault r.fault_is of.run.heard.failed r.outcome prints)
    ]

-- ---- rows that are made

-- rows that aren't made for a fault
made_fault : (asked : MakeAsked) (job : JobView) (old new : World) (why : Fault) (code : PFault) → MakesNoRows asked job why → made_rows job asked.seed asked.rows ≡ Err code
    → ◌≡◌ {A = Option Fault} (Some why) (Some (fault.Payments code)) ⊎ IsExcused old new (Some why)
made_fault asked job old new (fault.Payments other) code (some, is) refused = inl (ap (λ (c : PFault). Some (fault.Payments c)) (cc (sym is ∙ refused)))
made_fault asked job old new fault.NoMemory code makes refused = inr (inr refl)
made_fault asked job old new _ code makes refused = absurd makes

not_made : (asked : MakeAsked) (job : JobView) (old new : World) (why : Fault) (rows : List Row) → MakesNoRows asked job why → made_rows job asked.seed asked.rows ≡ Ok rows → IsExcused old new (Some why)
not_made asked job old new (fault.Payments other) rows (some, is) made = absurd (cc (sym is ∙ made))
not_made asked job old new fault.NoMemory rows makes made = inr refl
not_made asked job old new _ rows makes made = absurd makes

pub follows_make : Excludes → HaveOneFault → (asked : MakeAsked) (old between new : World) (answer : Answer) → EndsMake asked old between answer → PrintsFault answer.fault between new →
    FollowsJobThen asked.job (λ job. FollowsMade asked job old new answer.fault) old new answer.fault
follows_make excludes have asked old between new answer ends prints =
    elim ends [
      | inl s ↦ subst (λ (x : Answer). FollowsJobThen asked.job (λ job. FollowsMade asked job old new x.fault) old new x.fault) (sym s.answer_is) (elim s.cause [
        | inl unread ↦ no_job_then excludes have asked.job (λ job. FollowsMade asked job old new (Some s.why)) old between new s.why prints.shelf unread
            (λ job excused. record { refused = λ code none. inr excused; made = λ rows some. inr excused })
        | inr (job, of, makes, counted) ↦ job_then excludes asked.job (λ other. FollowsMade asked other old new (Some s.why)) old new (Some s.why) job of (record {
          refused = λ code none. made_fault asked job old new s.why code makes none;
          made = λ rows some. inr (not_made asked job old new s.why rows makes some);
        })
      ])
      | inr r ↦
          let of = r.is_so in
          job_then excludes asked.job (λ other. FollowsMade asked other old new answer.fault) old new answer.fault of.job of.of_job (record {
            refused = λ code none. absurd (cc (sym of.of_rows ∙ none));
            made = λ rows some. done_or_excused (made_lines r.done) old between new answer.fault r.lines.prints prints;
          })
    ]

-- ---- texts that are printed

pub follows_text : (text : List ℕ) (old between new : World) (answer : Answer) → PrintsText text old between answer → PrintsFault answer.fault between new → IsDoneOrExcused old new answer.fault
follows_text text old between new answer ends prints = done_or_excused text old between new answer.fault ends.lines.prints prints
