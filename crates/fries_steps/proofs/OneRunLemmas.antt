-- What `save` and then `resume` leave over the same files are parts of one run.
use Rattle.std.proofs.Common.{◌≡◌, ◌∙◌, ◌≤◌, ℕ, Bool, List, Result, Ok, false, length, take, ap, subst, sym}
use Rattle.jobs.specs.JobView.{JobView}
use Rattle.jobs.specs.Nodes.{AreFromSources}
use Rattle.tuple_trace.specs.Rows.{AreRows}
use Rattle.tuple_trace.specs.declared.row.Row.{Row}
use Rattle.versions.specs.declared.request.Request.{Request}
use Rattle.flow_model.specs.Begin.{Begin}
use Rattle.flow_model.specs.Consistent.{IsConsistent}
use Rattle.flow_model.specs.Record.{record_view}
use Rattle.flow_model.specs.Requests.{afters}
use Rattle.flow_model.specs.Run.{IsRun, IsRunSince, Ran}
use Rattle.flow_model.specs.Setup.{setup_view}
use Rattle.flow_model.specs.SetupView.{SetupView}
use Rattle.flow_model.specs.declared.setup.Setup.{Setup}
use Rattle.flow_laws.specs.Determined.{HasExactPlans}
use Rattle.flow_laws.proofs.SetupLemmas.{one_setup}
use Rattle.savepoint.specs.Parts.{AreParts, first_of, issued_up_to, joined, start_of}
use Rattle.savepoint.specs.SaveReading.{save_of}
use Rattle.savepoint.specs.SaveText.{save_text}
use Rattle.savepoint.specs.declared.fault.SaveFault.{SaveFault}
use Rattle.savepoint.proofs.PartsLemmas.{parts_run}
use Rattle.savepoint.proofs.SaveLemmas.{save-reads}
use Rattle.fries_steps.specs.OneRun.{AreOneRun, GoesOn}
use Rattle.fries_steps.specs.Parts.{IsFirstPart}
use Rattle.fries_steps.specs.Running.{saved_of}
use Rattle.fries_steps.specs.SetupFor.{AreSame, IsSetupFor}
use Rattle.fries_steps.specs.declared.running.Done.{Done}

-- setups of one job and the same requests have exactly the same plans
exact_plans : (ordered : Bool) (job : JobView) (requests : List Request) (setup : Setup) → IsSetupFor AreSame ordered job requests setup → HasExactPlans (setup_view setup)
exact_plans ordered job requests setup made = record { exact = made.exact; numbers = made.numbers }

pub same_setups : (ordered : Bool) (job : JobView) (requests : List Request) (first second : Setup) → IsSetupFor AreSame ordered job requests first → IsSetupFor AreSame ordered job requests second
    → setup_view first ≡ setup_view second
same_setups ordered job requests first second f g =
    one_setup (setup_view first) (setup_view second) (f.job_is ∙ sym g.job_is) (f.accepted ∙ sym g.accepted) (f.mode ∙ sym g.mode)
    (exact_plans ordered job requests first f) (exact_plans ordered job requests second g)

-- the text of a first part is read as where it ended, by the setup of which it is the first part
own_reads : (rows : List Row) (row : ℕ) (job : JobView) (requests : List Request) (first : Done) → (f : IsFirstPart row job requests rows first)
    → save_of (setup_view f.whole) (length rows) (saved_of first) ≡ Ok (start_of row (record_view first.ran))
own_reads rows row job requests first f =
    let begin : Begin = start_of first.row (record_view first.ran) in
    let reads : save_of (setup_view f.whole) (length rows) (save_text (setup_view f.whole).job begin) ≡ Ok begin =
    save-reads (setup_view f.whole) (length rows) begin f.whole.job.lawful f.can_save in
    let of_job : (setup_view first.ran.setup).job ≡ (setup_view f.whole).job = ap (λ (s : SetupView). s.job) f.cut in
    let saved : save_of (setup_view f.whole) (length rows) (saved_of first) ≡ Ok begin =
    ap (λ (j : JobView). save_of (setup_view f.whole) (length rows) (save_text j begin)) of_job ∙ reads in
    subst (λ (n : ℕ). save_of (setup_view f.whole) (length rows) (saved_of first) ≡ Ok (start_of n (record_view first.ran))) f.row_is saved

-- and so by every setup of the same job and requests
pub saved_reads : (setup : Setup) (rows : List Row) (row : ℕ) (job : JobView) (requests : List Request) (first : Done) → (f : IsFirstPart row job requests rows first)
    → IsSetupFor AreSame false job requests setup → save_of (setup_view setup) (length rows) (saved_of first) ≡ Ok (start_of row (record_view first.ran))
saved_reads setup rows row job requests first f made =
    subst (λ (s : SetupView). save_of s (length rows) (saved_of first) ≡ Ok (start_of row (record_view first.ran)))
    (same_setups false job requests f.whole setup f.setup made) (own_reads rows row job requests first f)

-- so what goes on from there is the second part
are_parts : (setup : Setup) (rows : List Row) (row : ℕ) (job : JobView) (requests : List Request) (start : Begin) (first second : Done) → (f : IsFirstPart row job requests rows first)
    → GoesOn job requests rows setup start first second → AreParts (setup_view setup) rows row (record_view first.ran) (record_view second.ran)
are_parts setup rows row job requests start first second f g =
    let both : ◌≡◌ {A = Result Begin SaveFault} (Ok (start_of row (record_view first.ran))) (Ok start) = sym (saved_reads setup rows row job requests first f g.setup_is) ∙ g.reads in
    let begun : start_of row (record_view first.ran) ≡ start = cc in
    let cut : IsRun (first_of (setup_view f.whole) (issued_up_to row (length rows) (afters (setup_view f.whole).requests))) (take row rows) (record_view first.ran) =
    subst (λ (s : SetupView). IsRun s (take row rows) (record_view first.ran)) f.cut f.run in
    record {
      within = subst (λ (n : ℕ). n ≤ length rows) f.row_is f.can_save.within;
      begins = subst (λ (s : SetupView). IsRun (first_of s (issued_up_to row (length rows) (afters s.requests))) (take row rows) (record_view first.ran))
          (same_setups false job requests f.whole setup f.setup g.setup_is) cut;
      goes_on = subst (λ (b : Begin). IsRunSince b (setup_view setup) rows (record_view second.ran)) (sym begun) g.run.run;
    }

pub are_one_run : (setup : Setup) (rows : List Row) → AreRows rows → ((ran : Ran) → IsRun (setup_view setup) rows ran → AreFromSources (setup_view setup).job rows → IsConsistent rows ran)
    → (row : ℕ) (job : JobView) (requests : List Request) (start : Begin) (first second : Done) → AreFromSources job rows → (f : IsFirstPart row job requests rows first)
    → GoesOn job requests rows setup start first second → AreOneRun (setup_view setup) rows row (record_view first.ran) (record_view second.ran)
are_one_run setup rows are law row job requests start first second sources f g =
    let parts : AreParts (setup_view setup) rows row (record_view first.ran) (record_view second.ran) = are_parts setup rows row job requests start first second f g in
    let run : IsRun (setup_view setup) rows (joined (setup_view setup) (record_view first.ran) (record_view second.ran)) =
    parts_run setup rows row (record_view first.ran) (record_view second.ran) are parts in
    record {
      parts = parts;
      run = run;
      consistent = law (joined (setup_view setup) (record_view first.ran) (record_view second.ran)) run (subst (λ (j : JobView). AreFromSources j rows) (sym g.setup_is.job_is) sources);
    }
