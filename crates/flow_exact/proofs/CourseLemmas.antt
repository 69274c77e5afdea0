-- A run in parts, of which each keeps the borders exact.
use Rattle.std.proofs.Common.{◌≡◌, ◌∙◌, ◌≤◌, ℕ, List, [], ◌∷◌, ap, arith, length, min}
use Rattle.std.proofs.Common.{subst, sym, take}
use Rattle.std.specs.Prelude.{Err, IfOk, Ok, Result}
use Rattle.std.proofs.Math.Seq.{take-length}
use Rattle.std.proofs.lemmas.List.{length-append}
use Rattle.std.proofs.lemmas.Result.{IfOk-weaker}
use Rattle.keyed_state.specs.Counts.{Counts}
use Rattle.cover_planner.specs.declared.cover.Plan.{Plan}
use Rattle.jobs.specs.JobView.{JobView}
use Rattle.jobs.specs.Nodes.{AreFromSources}
use Rattle.tuple_trace.specs.Rows.{AreRows}
use Rattle.tuple_trace.specs.declared.row.Row.{Row}
use Rattle.versions.specs.declared.request.Request.{Request}
use Rattle.flow_model.specs.Begin.{Begin, at_first}
use Rattle.flow_model.specs.Planned.{extended}
use Rattle.flow_model.specs.Record.{record_view}
use Rattle.flow_model.specs.Run.{IsRun, IsRunSince, Ran}
use Rattle.flow_model.specs.Setup.{setup_view}
use Rattle.flow_model.specs.SetupView.{SetupView}
use Rattle.flow_model.specs.Workers.{workers_in}
use Rattle.flow_model.specs.declared.record.RunRecord.{RunRecord}
use Rattle.flow_model.specs.declared.setup.Setup.{Setup}
use Rattle.savepoint.specs.Parts.{joined, start_of}
use Rattle.stream_law.specs.Border.{AreExactAfter}
use Rattle.flow_exact.specs.inner.Course.{IsCourse, IsExactRun, ran_of}
use Rattle.flow_exact.specs.declared.course.Course.{Course}
use Rattle.flow_exact.proofs.ExactLemmas.{exact_begun, exact_request, exact_rows}

-- ---- where a part begins

abbrev begin_as : ℕ → ℕ → List Counts → Begin
begin_as row turned states = record { row = row; turned = turned; states = states }

-- a course goes on from where its parts have ended
start_is : (course : Course) → course.start.turned ≡ length (setup_view course.setup).requests
    → course.start ≡ start_of course.start.row (ran_of course)
start_is course e =
    ap (λ k. begin_as course.start.row k course.start.states) e

-- it has counts for each worker
pub states_of : (rows : List Row) (course : Course) → IsCourse rows course
    → length course.start.states ≡ length (workers_in (setup_view course.setup).job)
states_of rows course is = is.run.run.run.one_state_each

-- an exact run, as a course has it
course_as : (rows : List Row) (course : Course) (setup : Setup) (row : ℕ) (ran : Ran)
    → course.setup ≡ setup → course.start.row ≡ row
    → course.start.turned ≡ length (setup_view setup).requests → ran_of course ≡ ran
    → AreFromSources (setup_view setup).job rows → IsExactRun rows (setup_view setup) row ran
    → IsCourse rows course
course_as rows course setup row ran setup_is row_is turned_is ran_is sources is = record {
  run =
      subst (λ (s : Setup). IsExactRun rows (setup_view s) course.start.row (ran_of course))
      (sym setup_is)
      (subst (λ k. IsExactRun rows (setup_view setup) k (ran_of course)) (sym row_is)
      (subst (λ (r : Ran). IsExactRun rows (setup_view setup) row r) (sym ran_is) is));
  turned_is =
      turned_is ∙ ap (λ (s : Setup). length (setup_view s).requests) (sym setup_is);
  sources = subst (λ (s : Setup). AreFromSources (setup_view s).job rows) (sym setup_is) sources;
}

-- ---- the parts

pub course_begun : (rows : List Row) (setup : Setup) (row : ℕ) (start : Begin) (ran : RunRecord)
    (course : Course) → start ≡ at_first (setup_view setup) → row ≤ length rows
    → (setup_view setup).requests ≡ [] → AreFromSources (setup_view setup).job rows
    → ran.setup ≡ setup → IsRunSince start (setup_view setup) (take row rows) (record_view ran)
    → course.setup ≡ ran.setup → course.start ≡ start_of row (record_view ran)
    → ran_of course ≡ record_view ran → IsCourse rows course
course_begun rows setup row start ran course first within none sources same run setup_is start_is
    ran_is =
    course_as rows course setup row (record_view ran) (setup_is ∙ same)
    (ap (λ (b : Begin). b.row) start_is)
    (ap (λ (b : Begin). b.turned) start_is
    ∙ ap (λ (s : Setup). length (setup_view s).requests) same) ran_is sources
    (exact_begun rows setup row (record_view ran) within none
    (subst (λ (b : Begin). IsRunSince b (setup_view setup) (take row rows) (record_view ran)) first
    run))

-- what a part more leaves
pub record IsPart (rows : List Row) (setup : Setup) (old course : Course) (row : ℕ) : Type 0 where
  pub setup_is : course.setup ≡ setup
  pub row_is : course.start.row ≡ row
  pub turned_is : course.start.turned ≡ length (setup_view setup).requests
  pub left : Ran
  pub goes : IsRunSince old.start (setup_view setup) (take row rows) left
  pub ran_is : ran_of course ≡ joined (setup_view setup) (ran_of old) left

goes_from : (rows : List Row) (setup : Setup) (old course : Course) (row : ℕ) → IsCourse rows old
    → (part : IsPart rows setup old course row)
    → IsRunSince (start_of old.start.row (ran_of old)) (setup_view setup) (take row rows) part.left
goes_from rows setup old course row was part =
    subst (λ (b : Begin). IsRunSince b (setup_view setup) (take row rows) part.left)
    (start_is old was.turned_is) part.goes

pub course_fed : (rows : List Row) (old course : Course) (row : ℕ) → AreRows rows
    → IsCourse rows old → old.start.row ≤ row → row ≤ length rows
    → IsPart rows old.setup old course row → IsCourse rows course
course_fed rows old course row numbered was more within part =
    course_as rows course old.setup row
    (joined (setup_view old.setup) (ran_of old) part.left) part.setup_is part.row_is
    part.turned_is part.ran_is was.sources
    (exact_rows rows old.setup old.start.row row (ran_of old) part.left numbered was.run more
    within (goes_from rows old.setup old course row was part))

-- the setup with one request more, whose border is the last row
module _ (rows : List Row) (old : Course) (grown : Setup) (request : Request) (plan : Plan)
    (was : IsCourse rows old)
    (is : setup_view grown ≡ extended (setup_view old.setup) (request ∷ []) (plan ∷ [])) where
  job_is : (setup_view grown).job ≡ (setup_view old.setup).job
  job_is = ap (λ (s : SetupView). s.job) is

  pub grown_sources : AreFromSources (setup_view grown).job rows
  grown_sources = subst (λ (j : JobView). AreFromSources j rows) (sym job_is) was.sources

  pub grown_turned : old.start.turned ≤ length (setup_view grown).requests
  grown_turned = omega (
    arith,
    was.turned_is,
    ap (λ (s : SetupView). length s.requests) is,
    length-append (setup_view old.setup).requests (request ∷ []),
  )

  pub grown_states : length old.start.states ≡ length (workers_in (setup_view grown).job)
  grown_states = states_of rows old was ∙ ap (λ j. length (workers_in j)) (sym job_is)

  pub course_issued : (course : Course) → AreRows rows
      → old.start.row ≡ min request.after (length rows)
      → IsPart rows grown old course old.start.row → IsCourse rows course
  course_issued course numbered border part =
      course_as rows course grown old.start.row
      (joined (setup_view grown) (ran_of old) part.left) part.setup_is part.row_is
      part.turned_is part.ran_is grown_sources
      (exact_request rows old.setup grown old.start.row request plan (ran_of old) part.left
      numbered was.run border is (goes_from rows grown old course old.start.row was part))

-- ---- parts that may want memory

-- what a part more leaves, in the words of the code: `begun` begins where the old course ended
abbrev HasLeft : List Row → Setup → Begin → Course → ℕ → Course → Type 0
HasLeft rows setup start begun row course =
    (left : Ran) × IsRunSince start (setup_view setup) (take row rows) left
    × (ran_of course ≡ joined (setup_view setup) (ran_of begun) left)

part_if_ok : {E : Type 0} (rows : List Row) (setup : Setup) (old : Course) (row : ℕ)
    (r : Result Course E) → IfOk r (λ course. course.setup ≡ setup)
    → IfOk r (λ course. course.start.row ≡ row)
    → IfOk r (λ course. course.start.turned ≡ length (setup_view setup).requests)
    → IfOk r (λ course. HasLeft rows setup old.start old row course)
    → IfOk r (λ course. IsPart rows setup old course row)
part_if_ok rows setup old row (Ok course) a b d part = record {
  setup_is = a;
  row_is = b;
  turned_is = d;
  left = part.0;
  goes = part.1;
  ran_is = part.2;
}
part_if_ok rows setup old row (Err e) a b d part = tt

pub fed_if_ok : {E : Type 0} (rows : List Row) (old : Course) (row : ℕ) (r : Result Course E)
    → AreRows rows → IsCourse rows old → old.start.row ≤ row → row ≤ length rows
    → IfOk r (λ course. course.setup ≡ old.setup) → IfOk r (λ course. course.start.row ≡ row)
    → IfOk r (λ course. course.start.turned ≡ length (setup_view old.setup).requests)
    → IfOk r (λ course. HasLeft rows old.setup old.start old row course)
    → IfOk r (IsCourse rows)
fed_if_ok rows old row r numbered was more within a b d part =
    IfOk-weaker r (λ course. IsPart rows old.setup old course row) (IsCourse rows)
    (λ course is. course_fed rows old course row numbered was more within is)
    (part_if_ok rows old.setup old row r a b d part)

pub issued_if_ok : {E : Type 0} (rows : List Row) (old : Course) (grown : Setup)
    (request : Request) (plan : Plan) (row : ℕ) (r : Result Course E) → IsCourse rows old
    → setup_view grown ≡ extended (setup_view old.setup) (request ∷ []) (plan ∷ [])
    → AreRows rows → old.start.row ≡ min request.after (length rows) → row ≡ old.start.row
    → IfOk r (λ course. course.setup ≡ grown) → IfOk r (λ course. course.start.row ≡ row)
    → IfOk r (λ course. course.start.turned ≡ length (setup_view grown).requests)
    → IfOk r (λ course. HasLeft rows grown old.start old row course) → IfOk r (IsCourse rows)
issued_if_ok rows old grown request plan row r was is numbered border row_is a b d part =
    IfOk-weaker r (λ course. IsPart rows grown old course row) (IsCourse rows)
    (λ course of. course_issued rows old grown request plan was is course numbered border
    (subst (λ k. IsPart rows grown old course k) row_is of))
    (part_if_ok rows grown old row r a b d part)

-- ---- the end

-- all rows were fed
module _ (rows : List Row) (course : Course) (setup : SetupView) (ran : Ran)
    (is : IsCourse rows course) (row_is : course.start.row ≡ length rows)
    (setup_is : setup_view course.setup ≡ setup) (ran_is : ran ≡ ran_of course) where
  rows_are : take course.start.row rows ≡ rows
  rows_are = ap (λ k. take k rows) row_is ∙ take-length rows

  pub ends_run : IsRun setup rows ran
  ends_run =
      subst (λ (r : Ran). IsRun setup rows r) (sym ran_is)
      (subst (λ (s : SetupView). IsRun s rows (ran_of course)) setup_is
      (subst (λ (l : List Row). IsRun (setup_view course.setup) l (ran_of course)) rows_are
      is.run.run))

  pub ends_exactly : AreExactAfter 0 (record { setup = setup; rows = rows; ran = ran })
  ends_exactly =
      subst (λ (r : Ran). AreExactAfter 0 (record { setup = setup; rows = rows; ran = r }))
      (sym ran_is)
      (subst (λ (s : SetupView). AreExactAfter 0
      (record { setup = s; rows = rows; ran = ran_of course })) setup_is
      (subst (λ (l : List Row). AreExactAfter 0
      (record { setup = setup_view course.setup; rows = l; ran = ran_of course })) rows_are
      is.run.exact))
