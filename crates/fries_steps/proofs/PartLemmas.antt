-- What the two parts of a run are.
use Rattle.std.proofs.Common.{◌≡◌, ◌∙◌, ◌<◌, ◌≤◌, ◌^◌, ℕ, List, All, length, min, take, ap, false, subst, sym, arith}
use Rattle.std.proofs.lemmas.List.{length-take-le}
use Rattle.std.proofs.lemmas.List.Elements.{All-take}
use Rattle.flow_laws.specs.Later.{HasWholeRows}
use Rattle.jobs.specs.Job.{job_view}
use Rattle.jobs.specs.Limits.{HasShortTexts}
use Rattle.jobs.specs.Nodes.{AreFromSources, IsSourceOf, worker_count}
use Rattle.jobs.specs.JobView.{JobView}
use Rattle.jobs.specs.declared.job.Job.{Job}
use Rattle.job_file.specs.RequestSizes.{AreFew}
use Rattle.tuple_trace.specs.declared.row.Row.{Row}
use Rattle.versions.specs.Judged.{judged}
use Rattle.versions.specs.Kept.{HaveLimits}
use Rattle.versions.specs.declared.request.Request.{Request}
use Rattle.flow_model.specs.Begin.{Begin}
use Rattle.flow_model.specs.Consistent.{IsConsistent}
use Rattle.flow_model.specs.Record.{record_view}
use Rattle.flow_model.specs.Requests.{afters}
use Rattle.flow_model.specs.Run.{IsRun, IsRunSince, Ran}
use Rattle.flow_model.specs.Setup.{setup_view}
use Rattle.flow_model.specs.SetupView.{SetupView}
use Rattle.flow_model.specs.declared.record.RunRecord.{RunRecord}
use Rattle.flow_model.specs.declared.setup.Setup.{Setup}
use Rattle.flow_model.proofs.WorkerListLemmas.{length-workers_from}
use Rattle.savepoint.specs.Parts.{first_of, issued_up_to, start_of}
use Rattle.savepoint.specs.SaveReading.{CanSave}
use Rattle.fries_steps.proofs.AcceptedLemmas.{accepted_few, accepted_limits}
use Rattle.fries_steps.specs.Parts.{HasWorkers, IsFirstPart, IsRunFromStart}
use Rattle.fries_steps.specs.Running.{IsDoneOf}
use Rattle.fries_steps.specs.SetupFor.{AreSame, IsSetupFor}
use Rattle.fries_steps.specs.declared.running.Done.{Done}

-- the first rows enter by sources of the cut setup's job
pub first_sources : (row : ℕ) (job : JobView) (requests : List Request) (rows first : List Row) (whole part : Setup)
    → IsSetupFor AreSame false job requests whole → part.job ≡ whole.job → first ≡ take row rows → AreFromSources job rows → AreFromSources (setup_view part).job first
first_sources row job requests rows first whole part made same is sources =
    subst (λ (j : Job). AreFromSources (job_view j) first) (sym same)
    (subst (λ (j : JobView). AreFromSources j first) (sym made.job_is)
    (subst (λ (f : List Row). AreFromSources job f) (sym is) (All-take (λ (r : Row). IsSourceOf job r.source) row rows sources)))

-- what the law of savepoints says of each first part of the rows
abbrev pub PartsCanBeSaved : Setup → List Row → Type 0
PartsCanBeSaved whole rows = (row : ℕ) (ran : Ran) → row ≤ length rows → length rows < 2 ^ 63 → length (setup_view whole).requests < 2 ^ 63
    → All (λ (row : Row). HasShortTexts row.tuple) rows → HaveLimits (setup_view whole).requests
    → IsRun (first_of (setup_view whole) (issued_up_to row (length rows) (afters (setup_view whole).requests))) (take row rows) ran → CanSave (setup_view whole) (length rows) (start_of row ran)

-- so it can be saved, under the setup of few requests within their limits
can_save_so : (row : ℕ) (job : JobView) (requests : List Request) (rows : List Row) (whole : Setup) (done : Done) → IsSetupFor AreSame false job requests whole → PartsCanBeSaved whole rows
    → row ≤ length rows → length rows < 2 ^ 63 → AreFew requests → HaveLimits requests → All (λ (row : Row). HasShortTexts row.tuple) rows → done.row ≡ row
    → IsRun (first_of (setup_view whole) (issued_up_to row (length rows) (afters (setup_view whole).requests))) (take row rows) (record_view done.ran)
    → CanSave (setup_view whole) (length rows) (start_of done.row (record_view done.ran))
can_save_so row job requests rows whole done made can within small few limits texts row_is run =
    let kept : whole.judged.accepted ≡ (judged job requests).accepted = made.accepted in
    let count : length whole.judged.accepted ≡ length (judged job requests).accepted = ap (λ (l : List Request). length l) kept in
    let short : length whole.judged.accepted < 2 ^ 63 = omega (arith, count, accepted_few job requests, few.count) in
    subst (λ (n : ℕ). CanSave (setup_view whole) (length rows) (start_of n (record_view done.ran))) (sym row_is)
    (can row (record_view done.ran) within small short texts (subst HaveLimits (sym kept) (accepted_limits job requests limits)) run)

-- a run of the first rows under the cut setup is a first part
pub first_part_of : (most row count turned : ℕ) (job : JobView) (requests : List Request) (rows first : List Row) (whole part left : Setup) (ran : RunRecord) (done : Done)
    → IsSetupFor AreSame false job requests whole → count ≡ length rows → row ≡ min most count → turned ≡ issued_up_to row count (afters (setup_view whole).requests)
    → setup_view part ≡ first_of (setup_view whole) turned → part.judged.refused ≡ whole.judged.refused → first ≡ take row rows
    → ((other : Ran) → IsRun (setup_view part) first other → AreFromSources (setup_view part).job first → IsConsistent first other) → AreFromSources (setup_view part).job first
    → ran.setup ≡ left → left ≡ part → IsRun (setup_view part) first (record_view ran) → IsDoneOf ran requests first done
    → PartsCanBeSaved whole rows → count < 2 ^ 63 → AreFew requests → HaveLimits requests → All (λ (row : Row). HasShortTexts row.tuple) rows → IsFirstPart (min most (length rows)) job requests rows done
first_part_of most row count turned job requests rows first whole part left ran done made all upto issued cut refused is law sources left_is part_is run of can small few limits texts =
    let at : row ≡ min most (length rows) = upto ∙ ap (λ n. min most n) all in
    let same : ran.setup ≡ part = left_is ∙ part_is in
    let kept : done.ran.setup ≡ part = ap (λ (r : RunRecord). r.setup) of.ran_is ∙ same in
    let so : IsRun (setup_view part) first (record_view done.ran) = subst (λ (r : RunRecord). IsRun (setup_view part) first (record_view r)) (sym of.ran_is) run in
    let row_is : done.row ≡ row = of.row ∙ (ap (λ (f : List Row). length f) is ∙ length-take-le row rows (omega (arith, at))) in
    let cut_so : setup_view part ≡ first_of (setup_view whole) (issued_up_to row (length rows) (afters (setup_view whole).requests)) =
    cut ∙ ap (λ n. first_of (setup_view whole) n) (issued ∙ ap (λ n. issued_up_to row n (afters (setup_view whole).requests)) all) in
    let cut_run : IsRun (first_of (setup_view whole) (issued_up_to row (length rows) (afters (setup_view whole).requests))) (take row rows) (record_view done.ran) =
    subst (λ (f : List Row). IsRun (first_of (setup_view whole) (issued_up_to row (length rows) (afters (setup_view whole).requests))) f (record_view done.ran)) is
    (subst (λ (s : SetupView). IsRun s first (record_view done.ran)) cut_so so) in
    let first_part : IsFirstPart row job requests rows done = record {
      whole = whole;
      setup = made;
      row_is = row_is;
      cut = ap setup_view kept ∙ cut_so;
      run = subst (λ (s : Setup). IsRun (setup_view s) (take row rows) (record_view done.ran)) (sym kept) (subst (λ (f : List Row). IsRun (setup_view part) f (record_view done.ran)) is so);
      consistent = subst (λ (f : List Row). IsConsistent f (record_view done.ran)) is (law (record_view done.ran) so sources);
      can_save = can_save_so row job requests rows whole done made can (omega (arith, at)) (omega (arith, small, all)) few limits texts row_is cut_run;
      refused = of.refused ∙ (ap (λ (s : Setup). s.judged.refused) same ∙ refused);
      count = of.count;
    } in
    subst (λ n. IsFirstPart n job requests rows done) at first_part

-- a run has a journal and the counts of each worker of the job
pub workers_of : (start : Begin) (setup : Setup) (requests : List Request) (rows : List Row) (ran : RunRecord) (done : Done) → IsRunSince start (setup_view setup) rows (record_view ran)
    → IsDoneOf ran requests rows done → HasWorkers done
workers_of start setup requests rows ran done run of = record {
  journals = subst (λ (r : RunRecord). length r.journals ≡ worker_count r.setup.job.nodes) (sym of.ran_is) (run.run.one_journal_each ∙ length-workers_from 0 0 ran.setup.job.nodes);
  states = subst (λ (r : RunRecord). length r.states ≡ worker_count r.setup.job.nodes) (sym of.ran_is) (run.run.one_state_each ∙ length-workers_from 0 0 ran.setup.job.nodes);
}

-- a run of this setup from a beginning on is a later part
pub later_part_of : (start : Begin) (setup left : Setup) (requests : List Request) (rows : List Row) (ran : RunRecord) (done : Done) → ran.setup ≡ left → left ≡ setup
    → IsRunSince start (setup_view setup) rows (record_view ran) → ((begin : Begin) (other : Ran) → IsRunSince begin (setup_view setup) rows other → HasWholeRows other)
    → IsDoneOf ran requests rows done → IsRunFromStart start setup requests rows done
later_part_of start setup left requests rows ran done left_is is run law of =
    let kept : ran.setup ≡ setup = left_is ∙ is in
    let so : IsRunSince start (setup_view setup) rows (record_view done.ran) = subst (λ (r : RunRecord). IsRunSince start (setup_view setup) rows (record_view r)) (sym of.ran_is) run in
    record {
      setup_is = ap (λ (r : RunRecord). r.setup) of.ran_is ∙ kept;
      run = so;
      rows_are = law start (record_view done.ran) so;
      refused = of.refused ∙ ap (λ (s : Setup). s.judged.refused) kept;
      count = of.count;
    }
