-- Parts of a run over what the types of a setup and of rows keep.
use Rattle.std.proofs.Common.{◌≡◌, ◌≤◌, ℕ, List, refl, subst, ap, ◌∙◌, arith, length, min, nat_le, take}
use Rattle.std.proofs.Math.Logic.{∥∥₁_map}
use Rattle.std.proofs.lemmas.List.{length-map, length-take-le}
use Rattle.std.proofs.lemmas.List.Sums.{count_by-le-length, length-filter}
use Rattle.jobs.specs.Job.{job_view}
use Rattle.jobs.specs.JobView.{JobView}
use Rattle.tuple_trace.specs.Rows.{AreRows}
use Rattle.tuple_trace.specs.declared.row.Row.{Row}
use Rattle.versions.specs.declared.request.Request.{Request}
use Rattle.versions.proofs.KeptLemmas.{accepted-kept, accepted-order}
use Rattle.flow_model.specs.Begin.{at_first}
use Rattle.flow_model.specs.SetupView.{SetupView}
use Rattle.flow_model.specs.Requests.{afters}
use Rattle.flow_model.specs.Run.{IsRun, IsRunFrom, Ran, ran_as}
use Rattle.flow_model.specs.Setup.{setup_view}
use Rattle.flow_model.specs.declared.setup.Setup.{Setup}
use Rattle.flow_model.proofs.JobLemmas.{connected}
use Rattle.flow_model.proofs.PlannedLemmas.{has_covers}
use Rattle.flow_model.proofs.RunLemmas.{Running}
use Rattle.savepoint.specs.Parts.{AreParts, first_of, issued_up_to, joined}
use Rattle.savepoint.proofs.CutLemmas.{AreAccepted-take, IsPlanned-first_of, take_get}
use Rattle.savepoint.proofs.JoinLemmas.{Kept, joined_run}
use Rattle.savepoint.proofs.OrderLemmas.{are_split}

pub AreRows-take : (n : ℕ) (rows : List Row) → AreRows rows → AreRows (take n rows)
AreRows-take n rows are place row g = are place row (take_get n place rows row g)

pub counted_le : (row rows : ℕ) (requests : List Request) → issued_up_to row rows (afters requests) ≤ length requests
counted_le row rows requests =
    omega (arith, length-filter (λ after. nat_le (min after rows) row) (afters requests), count_by-le-length (λ after. nat_le (min after rows) row) (afters requests), length-map requests (λ (request : Request). request.after))

-- the first part, under the cut setup
abbrev pub first_part : SetupView → ℕ → Ran → Ran
first_part setup m first = ran_as (first_of setup m) first.feeds first.journals first.states

pub first_running : (setup : Setup) (rows : List Row) (row m : ℕ) (first : Ran) → AreRows rows → IsRun (first_of (setup_view setup) m) (take row rows) first
    → Running (take row rows) (first_part (setup_view setup) m first)
first_running setup rows row m first are is =
    let s : SetupView = setup_view setup in
    let job : JobView = job_view setup.job in
    record {
      connected = connected job setup.job.dag setup.job.lawful refl setup.job.drawn;
      kept = has_covers (first_of s m) (∥∥₁_map setup.planned (IsPlanned-first_of s m));
      kinds = accepted-kept job (take m s.requests) (AreAccepted-take job m s.requests setup.accepted);
      order = accepted-order job (take m s.requests) (AreAccepted-take job m s.requests setup.accepted);
      rows_are = AreRows-take row rows are;
      run = subst (λ (o : SetupView). IsRunFrom (at_first (first_of s m)) (take row rows) (ran_as o first.feeds first.journals first.states)) is.setup_is is.run;
    }

pub parts_run : (setup : Setup) (rows : List Row) (row : ℕ) (first second : Ran) → AreRows rows → AreParts (setup_view setup) rows row first second → IsRun (setup_view setup) rows (joined (setup_view setup) first second)
parts_run setup rows row first second are parts =
    let s : SetupView = setup_view setup in
    let m : ℕ = issued_up_to row (length rows) (afters s.requests) in
    let le : m ≤ length s.requests = counted_le row (length rows) s.requests in
    let job : JobView = job_view setup.job in
    let kept : Kept s = record { connected = connected job setup.job.dag setup.job.lawful refl setup.job.drawn; covers = has_covers s setup.planned; one_each = (has_covers s setup.planned).one_each } in
    let running : Running (take row rows) (first_part s m first) = first_running setup rows row m first are parts.begins in
    let turned : length first.setup.requests ≡ m = ap (λ (o : SetupView). length o.requests) parts.begins.setup_is ∙ length-take-le m s.requests le in
    let later : IsRunFrom (record { row = row; turned = m; states = first.states }) rows (ran_as s second.feeds second.journals second.states) =
    subst (λ (o : SetupView). IsRunFrom (record { row = row; turned = m; states = first.states }) rows (ran_as o second.feeds second.journals second.states)) parts.goes_on.setup_is
    (subst (λ k. IsRunFrom (record { row = row; turned = k; states = first.states }) rows second) turned parts.goes_on.run) in
    record {
      setup_is = refl;
      run =
          joined_run s rows row m kept parts.within le (are_split row (length rows) 0 s.requests (accepted-order job s.requests setup.accepted))
          first.feeds second.feeds first.journals second.journals first.states second.states running later;
    }
