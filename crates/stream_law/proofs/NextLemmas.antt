-- Parts that go on from where all before them have ended are one run with what was run so far.
use Rattle.std.proofs.Common.{◌≡◌, ◌∙◌, ◌≤◌, ℕ, List, [], ◌∷◌, refl, sym, subst, ap, arith, drop, length, min, take}
use Rattle.std.proofs.lemmas.List.{length-take, take-map}
use Rattle.jobs.specs.Job.{job_view}
use Rattle.jobs.specs.JobView.{JobView}
use Rattle.tuple_trace.specs.declared.row.Row.{Row}
use Rattle.versions.specs.declared.request.Request.{Request}
use Rattle.flow_model.specs.SetupView.{SetupView}
use Rattle.flow_model.specs.Requests.{afters}
use Rattle.flow_model.specs.Run.{IsRun, IsRunFrom, Ran, ran_as}
use Rattle.flow_model.specs.Setup.{setup_view}
use Rattle.flow_model.proofs.ElementLemmas.{IsIn, at_of_all}
use Rattle.flow_model.proofs.JobLemmas.{connected}
use Rattle.flow_model.proofs.PlannedLemmas.{has_covers}
use Rattle.flow_model.proofs.RunLemmas.{Running}
use Rattle.savepoint.specs.Parts.{first_of}
use Rattle.savepoint.proofs.JoinLemmas.{Kept, joined_run}
use Rattle.savepoint.proofs.OrderLemmas.{AreSplit}
use Rattle.savepoint.proofs.PartsLemmas.{first_part, first_running}
use Rattle.stream_law.specs.Stream.{AreNextParts, IsNextPart, IsRunSoFar, RunPart, SoFar, with_part, with_parts}

pub next_run : (so_far : SoFar) (part : RunPart) → IsRunSoFar so_far → IsNextPart so_far part → IsRunSoFar (with_part so_far part)
next_run so_far part is next =
    let s : SetupView = setup_view part.setup in
    let rows : List Row = part.rows in
    let n : ℕ = length so_far.rows in
    let m : ℕ = length so_far.setup.requests in
    let job : JobView = job_view part.setup.job in
    let within : n ≤ length rows = omega (arith, length-take n rows, ap length next.rows_begin) in
    let same_requests : take m s.requests ≡ so_far.setup.requests = ap (λ (o : SetupView). o.requests) next.requests_begin in
    let le : m ≤ length s.requests = omega (arith, length-take m s.requests, ap length same_requests) in
    let waits : take m (afters s.requests) ≡ afters so_far.setup.requests = take-map (λ (request : Request). request.after) m s.requests ∙ ap afters same_requests in
    let split : AreSplit n (length rows) m (afters s.requests) = record {
      early = λ x i. at_of_all (λ after. min after (length rows) ≤ n) x (afters so_far.setup.requests) next.due (subst (IsIn x) waits i);
      late = λ y i. (let k : n ≤ y = at_of_all (λ after. n ≤ after) y (drop m (afters s.requests)) next.wait i in omega arith);
    } in
    let kept : Kept s = record { connected = connected job part.setup.job.dag part.setup.job.lawful refl part.setup.job.drawn; covers = has_covers s part.setup.planned; one_each = (has_covers s part.setup.planned).one_each } in
    let begins : IsRun (first_of s m) (take n rows) so_far.ran =
    subst (λ (o : SetupView). IsRun o (take n rows) so_far.ran) (sym next.requests_begin)
    (subst (λ (r : List Row). IsRun so_far.setup r so_far.ran) (sym next.rows_begin) is) in
    let running : Running (take n rows) (first_part s m so_far.ran) = first_running part.setup rows n m so_far.ran next.numbered begins in
    let turned : length so_far.ran.setup.requests ≡ m = ap (λ (o : SetupView). length o.requests) is.setup_is in
    let left : Ran = part.left in
    let later : IsRunFrom (record { row = n; turned = m; states = so_far.ran.states }) rows (ran_as s left.feeds left.journals left.states) =
    subst (λ (o : SetupView). IsRunFrom (record { row = n; turned = m; states = so_far.ran.states }) rows (ran_as o left.feeds left.journals left.states)) next.goes_on.setup_is
    (subst (λ k. IsRunFrom (record { row = n; turned = k; states = so_far.ran.states }) rows left) turned next.goes_on.run) in
    record {
      setup_is = refl;
      run = joined_run s rows n m kept within le split so_far.ran.feeds left.feeds so_far.ran.journals left.journals so_far.ran.states left.states running later;
    }

pub all_run : (so_far : SoFar) (parts : List RunPart) → IsRunSoFar so_far → AreNextParts so_far parts → IsRunSoFar (with_parts so_far parts)
all_run so_far [] is next = is
all_run so_far (part ∷ later) is next = all_run (with_part so_far part) later (next_run so_far part is next.0) next.1
