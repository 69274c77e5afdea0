-- What the sinks show of parts in a row is what they show of all so far and of each part, in another order.
use Rattle.std.proofs.Common.{◌≡◌, ◌∙◌, ◌++◌, ℕ, List, [], ◌∷◌, sym, subst, ap, arith, append_assoc, length}
use Rattle.std.specs.List.Sorted.{IsPermutation}
use Rattle.std.proofs.lemmas.List.{append-nil}
use Rattle.std.proofs.lemmas.List.Sorted.{IsPermutation-append_left, IsPermutation-refl, IsPermutation-trans}
use Rattle.jobs.specs.JobView.{JobView}
use Rattle.sink_journal.specs.Alerts.{all_alerts}
use Rattle.flow_model.specs.Setup.{setup_view}
use Rattle.flow_model.specs.SetupView.{SetupView}
use Rattle.flow_model.specs.Workers.{workers_in}
use Rattle.stream_law.specs.Stream.{AreNextParts, IsNextPart, IsRunSoFar, RunPart, SoFar, alerts_in, parts_alerts, with_part, with_parts}
use Rattle.stream_law.proofs.AlertsLemmas.{alerts_both}
use Rattle.stream_law.proofs.NextLemmas.{next_run}

-- one part
part_shown : (so_far : SoFar) (part : RunPart) → IsRunSoFar so_far → IsNextPart so_far part
    → IsPermutation (alerts_in (with_part so_far part).ran) (alerts_in so_far.ran ++ alerts_in part.left)
part_shown so_far part is next =
    let job : JobView = (setup_view part.setup).job in
    let earlier : so_far.ran.setup.job ≡ job = ap (λ (s : SetupView). s.job) is.setup_is ∙ sym (ap (λ (s : SetupView). s.job) next.requests_begin) in
    let later : part.left.setup.job ≡ job = ap (λ (s : SetupView). s.job) next.goes_on.setup_is in
    let n : length so_far.ran.journals ≡ length (workers_in so_far.ran.setup.job) = is.run.one_journal_each in
    let m : length part.left.journals ≡ length (workers_in part.left.setup.job) = next.goes_on.run.one_journal_each in
    let p : length (workers_in so_far.ran.setup.job) ≡ length (workers_in job) = ap (λ (j : JobView). length (workers_in j)) earlier in
    let q : length (workers_in part.left.setup.job) ≡ length (workers_in job) = ap (λ (j : JobView). length (workers_in j)) later in
    let same : length so_far.ran.journals ≡ length part.left.journals = omega (arith, n, m, p, q) in
    let all : List (List (List ℕ)) = alerts_in (with_part so_far part).ran in
    let both : IsPermutation all (all_alerts job.columns job.nodes so_far.ran.journals ++ all_alerts job.columns job.nodes part.left.journals) =
    alerts_both job.columns job.nodes so_far.ran.journals part.left.journals same in
    subst (λ (j : JobView). IsPermutation all (all_alerts j.columns j.nodes so_far.ran.journals ++ alerts_in part.left)) (sym earlier)
    (subst (λ (j : JobView). IsPermutation all (all_alerts job.columns job.nodes so_far.ran.journals ++ all_alerts j.columns j.nodes part.left.journals)) (sym later) both)

pub all_shown : (so_far : SoFar) (parts : List RunPart) → IsRunSoFar so_far → AreNextParts so_far parts
    → IsPermutation (alerts_in (with_parts so_far parts).ran) (alerts_in so_far.ran ++ parts_alerts parts)
all_shown so_far [] is next =
    subst (IsPermutation (alerts_in so_far.ran)) (sym (append-nil (alerts_in so_far.ran))) (IsPermutation-refl (alerts_in so_far.ran))
all_shown so_far (part ∷ later) is next =
    let more : SoFar = with_part so_far part in
    let a : List (List (List ℕ)) = alerts_in so_far.ran in
    let b : List (List (List ℕ)) = alerts_in part.left in
    let c : List (List (List ℕ)) = parts_alerts later in
    let all : List (List (List ℕ)) = alerts_in (with_parts more later).ran in
    let rest : IsPermutation all (alerts_in more.ran ++ c) = all_shown more later (next_run so_far part is next.0) next.1 in
    subst (IsPermutation all) (append_assoc a b c)
    (IsPermutation-trans all (alerts_in more.ran ++ c) ((a ++ b) ++ c) rest
    (IsPermutation-append_left c (alerts_in more.ran) (a ++ b) (part_shown so_far part is next.0)))
