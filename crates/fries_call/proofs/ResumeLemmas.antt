-- What the files of `resume` are answered by.
use Rattle.std.proofs.Common.{◌≡◌, ◌∙◌, inl, inr, ℕ, List, Option, None, Some, Ok, false, length, sym, subst}
use Rattle.jobs.specs.JobView.{JobView}
use Rattle.job_file.specs.Job.{Excludes, HaveOneFault}
use Rattle.payments.specs.World.{World}
use Rattle.tuple_trace.specs.declared.row.Row.{Row}
use Rattle.versions.specs.declared.request.Request.{Request}
use Rattle.flow_model.specs.Setup.{setup_view}
use Rattle.flow_model.specs.declared.setup.Setup.{Setup}
use Rattle.savepoint.specs.SaveReading.{save_of}
use Rattle.fries_words.specs.Asked.{ResumeAsked}
use Rattle.fries_lines.specs.declared.fault.Fault.{Fault}
use Rattle.fries_lines.specs.declared.fault.FileIs.TheVariants as file
use Rattle.fries_steps.specs.Effects.{IsExcused, PrintsFault}
use Rattle.fries_steps.specs.Reading.{RefusesSave}
use Rattle.fries_steps.specs.Running.{files_written, run_lines}
use Rattle.fries_steps.specs.SetupFor.{AreSame, IsSetupFor}
use Rattle.fries_steps.specs.declared.answer.Answer.{Answer}
use Rattle.fries_steps.proofs.FileLemmas.{ReadSame, follows_excused, follows_read, follows_unread, no_start, ran_or_excused, sole_start, start_follows_same, start_told_same, unread_excused}
use Rattle.fries_steps.proofs.StartLemmas.{saves_same}
use Rattle.fries_call.specs.Follows.{FollowsInputsThen}
use Rattle.fries_call.specs.Resume.{EndsResume, FollowsSavepoint, HasNoStart}
use Rattle.fries_call.proofs.FollowLemmas.{inputs_then, no_inputs_then}

-- two setups of a job and its requests read savepoints the same
read_same : (job : JobView) (requests : List Request) (setup other : Setup) → IsSetupFor AreSame false job requests setup → IsSetupFor AreSame false job requests other → (rows : ℕ) →
    ReadSame (setup_view setup) (setup_view other) rows
read_same job requests setup other made so rows = saves_same (setup_view setup) (setup_view other) (made.job_is ∙ sym so.job_is) (made.accepted ∙ sym so.accepted) rows

-- what is so of the inputs
abbrev SaveAfter : ResumeAsked → World → World → Option Fault → JobView → List Request → List Row → Type 0
SaveAfter asked old new answer job requests rows = FollowsSavepoint asked job requests rows old new answer

-- a call that is excused
save_excused : (asked : ResumeAsked) (old new : World) (answer : Option Fault) (job : JobView) (requests : List Request) (rows : List Row) → IsExcused old new answer → FollowsSavepoint asked job requests rows old new answer
save_excused asked old new answer job requests rows excused = record {
  file = λ setup made. follows_excused file.Save (RefusesSave (setup_view setup) (length rows)) asked.save old new answer excused;
  later = λ setup start made tells. inr excused;
}

-- a call that read its inputs, and no savepoint
no_save : (asked : ResumeAsked) (old between new : World) (why : Fault) → new.shelf ≡ between.shelf → (n : HasNoStart false asked.run.plan asked.run.payments asked.save old.shelf.files old.shelf.faults between.shelf.faults why) →
    FollowsSavepoint asked n.job n.requests n.rows old new (Some why)
no_save asked old between new why same n =
    let mine = setup_view n.setup in
    let count = length n.rows in
    record {
      file = λ setup made. start_follows_same mine (setup_view setup) count asked.save old new (Some why) (read_same n.job n.requests n.setup setup n.setup_is made count)
          (follows_unread file.Save (RefusesSave mine count) asked.save old between new why (sole_start mine count) same n.unread);
      later = λ setup start made tells.
          inr (unread_excused file.Save (λ bytes. save_of mine count bytes ≡ Ok start) (RefusesSave mine count) asked.save old between new why
          (no_start mine count start) (start_told_same mine (setup_view setup) count old.shelf.files asked.save start (read_same n.job n.requests n.setup setup n.setup_is made count) tells) same n.unread);
    }

pub follows_resume : Excludes → HaveOneFault → (asked : ResumeAsked) (old between new : World) (answer : Answer) → EndsResume asked old between answer → PrintsFault answer.fault between new →
    FollowsInputsThen asked.run.plan asked.run.payments (λ job requests rows. FollowsSavepoint asked job requests rows old new answer.fault) old new answer.fault
follows_resume excludes have asked old between new answer ends prints =
    elim ends [
      | inl s ↦ subst (λ (x : Answer). FollowsInputsThen asked.run.plan asked.run.payments (SaveAfter asked old new x.fault) old new x.fault) (sym s.answer_is) (elim s.cause [
        | inl none ↦ no_inputs_then excludes have asked.run.plan asked.run.payments (SaveAfter asked old new (Some s.why)) old between new s.why prints.shelf none (save_excused asked old new (Some s.why))
        | inr n ↦ inputs_then excludes asked.run.plan asked.run.payments (SaveAfter asked old new (Some s.why)) old new (Some s.why) n.job n.requests n.rows n.of_files (no_save asked old between new s.why prints.shelf n)
      ])
      | inr (start, r) ↦
          let of = r.is_so in
          let mine = setup_view r.done.ran.setup in
          let count = length of.rows in
          inputs_then excludes asked.run.plan asked.run.payments (SaveAfter asked old new answer.fault) old new answer.fault of.job of.requests of.rows of.of_files (record {
            file = λ setup made. start_follows_same mine (setup_view setup) count asked.save old new answer.fault (read_same of.job of.requests r.done.ran.setup setup of.setup made count)
                (follows_read file.Save (λ bytes. save_of mine count bytes ≡ Ok start) (RefusesSave mine count) asked.save old new answer.fault (no_start mine count start) of.of_save);
            later = λ setup other made tells.
                ran_or_excused (files_written asked.run.alerts (Some asked.run.audit) None r.done) (run_lines r.done) old between new answer.fault r.outcome prints;
          })
    ]
