-- Rows that are made, and run without requests.
use Rattle.std.proofs.Common.{◌≡◌, ◌≢◌, ◌∙◌, [], List, Option, Ok, Err, refl}
use Rattle.fries_words.specs.Asked.{MakeAsked}
use Rattle.jobs.specs.JobView.{JobView}
use Rattle.payments.specs.Files.{Files}
use Rattle.payments.specs.Made.{made_rows}
use Rattle.payments.specs.declared.read.PFault.{PFault}
use Rattle.payments.specs.declared.read.PFault.TheVariants as rows
use Rattle.fries_lines.specs.Faults.{payments_fault}
use Rattle.tuple_trace.specs.declared.row.Row.{Row}
use Rattle.versions.specs.Judged.{judged, judged_from}
use Rattle.fries_call.specs.Make.{IsMadeRun, MakesNoRows}
use Rattle.fries_steps.specs.SetupFor.{AreSame}
use Rattle.fries_steps.specs.Reading.{IsJobOf}
use Rattle.fries_steps.specs.Running.{IsRunOf}
use Rattle.fries_steps.specs.declared.running.Done.{Done}

-- without a request none is refused
judged_none : (job : JobView) → (judged job []).refused ≡ []
unfolding judged_from
judged_none job = refl

pub made_run : (asked : MakeAsked) (files : Option Files) (job : JobView) (rows : List Row) (done : Done) → IsJobOf files asked.job job → made_rows job asked.seed asked.rows ≡ Ok rows
    → IsRunOf AreSame asked.ordered job [] rows done → IsMadeRun asked files done
made_run asked files job rows done of made run =
    record { job = job; rows = rows; of_job = of; of_rows = made; run = run; accepted = run.refused ∙ (run.setup.refused ∙ judged_none job) }

-- why no rows are made
pub makes_no_rows : (asked : MakeAsked) (job : JobView) (code : PFault) → (code ≢ rows.NoMemory → made_rows job asked.seed asked.rows ≡ Err code) → MakesNoRows asked job (payments_fault code)
makes_no_rows asked job rows.NoMemory why = tt
makes_no_rows asked job rows.NoHeader why = (λ e. absurd (cc e), why (λ e. absurd (cc e)))
makes_no_rows asked job rows.Header why = (λ e. absurd (cc e), why (λ e. absurd (cc e)))
makes_no_rows asked job (rows.Length row) why = (λ e. absurd (cc e), why (λ e. absurd (cc e)))
makes_no_rows asked job (rows.Source row) why = (λ e. absurd (cc e), why (λ e. absurd (cc e)))
makes_no_rows asked job (rows.Value row column) why = (λ e. absurd (cc e), why (λ e. absurd (cc e)))
makes_no_rows asked job (rows.TextLong row column) why = (λ e. absurd (cc e), why (λ e. absurd (cc e)))
makes_no_rows asked job (rows.TooMuch row) why = (λ e. absurd (cc e), why (λ e. absurd (cc e)))
