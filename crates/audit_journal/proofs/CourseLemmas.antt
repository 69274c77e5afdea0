-- Which entries may come next, by what is kept of the journal so far.
use Rattle.std.proofs.Common.{◌≡◌, ◌<◌, ℕ, List, [], Option, Some, None, length, subst}
use Rattle.std.specs.Prelude.{◌↔◌, All, Contains}
use Rattle.sink_journal.specs.declared.journal.Feed.{Feed}
use Rattle.flow_model.specs.Duties.{duties}
use Rattle.flow_model.specs.Lanes.{lanes_in, marked_lanes}
use Rattle.flow_model.specs.Law.{IsEnabled, IsInTime, Progress, next_due}
use Rattle.flow_model.specs.SetupView.{SetupView}
use Rattle.flow_model.specs.Workers.{nth_worker, workers_in}
use Rattle.flow_model.proofs.WorkerPlaces.{worker_at}
use Rattle.audit_laws.specs.declared.audit.AuditEntry.TheVariants as kept
use Rattle.audit_laws.specs.Drafted.{draft, known}
use Rattle.audit_journal.specs.declared.course.Course.{Course}
use Rattle.audit_journal.specs.Course.{dues_from, progress_of}

next_is : (setup : SetupView) (node : ℕ) (due : Option ℕ) (request : ℕ) → (due ≡ Some request) ↔ (next_due (dues_from setup node due) ≡ Some request)
next_is setup node None request = (λ e. e, λ e. e)
next_is setup node (Some r) request = (λ e. e, λ e. e)

module _ (setup : SetupView) (w : ℕ) (works : w < length (workers_in setup.job)) (turned : ℕ) (feeds : List Feed) (course : Course)
  where
    abbrev progress : Progress
    progress = progress_of setup (nth_worker setup.job w).node course

    number : (nth_worker setup.job w).number ≡ w
    number = (worker_at setup.job w works).0

    pub met_enabled : (lane row : ℕ) (birth : List ℕ)
        → ((Contains (lanes_in setup.job w) lane × (course.marked ≡ []) × (course.ended ≡ [])) × IsInTime (duties setup turned (nth_worker setup.job w)) (known turned feeds row []) (next_due (dues_from setup (nth_worker setup.job w).node course.due)))
        ↔ IsEnabled (duties setup turned (nth_worker setup.job w)) (progress_of setup (nth_worker setup.job w).node course) (draft turned feeds (kept.Met lane row birth))
    met_enabled lane row birth =
        subst (λ v. ((Contains (lanes_in setup.job v) lane × (course.marked ≡ []) × (course.ended ≡ [])) × IsInTime (duties setup turned (nth_worker setup.job w)) (known turned feeds row []) (next_due (dues_from setup (nth_worker setup.job w).node course.due)))
        ↔ IsEnabled (duties setup turned (nth_worker setup.job w)) (progress_of setup (nth_worker setup.job w).node course) (draft turned feeds (kept.Met lane row birth))) number
        (λ h. (h.0.0, h.0.1, h.0.2, h.1), λ h. ((h.0, h.1, h.2), h.3))

    pub marked_enabled : (lane request : ℕ)
        → ((course.due ≡ Some request) × Contains (marked_lanes setup w request) lane × (¬ Contains course.marked lane) × (course.ended ≡ []))
        ↔ IsEnabled (duties setup turned (nth_worker setup.job w)) (progress_of setup (nth_worker setup.job w).node course) (draft turned feeds (kept.Marked lane request))
    marked_enabled lane request =
        let due = next_is setup (nth_worker setup.job w).node course.due request in
        subst (λ v. ((course.due ≡ Some request) × Contains (marked_lanes setup v request) lane × (¬ Contains course.marked lane) × (course.ended ≡ []))
        ↔ IsEnabled (duties setup turned (nth_worker setup.job w)) (progress_of setup (nth_worker setup.job w).node course) (draft turned feeds (kept.Marked lane request))) number
        (λ h. (due.0 h.0, h.1, h.2, h.3), λ h. (due.1 h.0, h.1, h.2, h.3))

    pub turned_enabled : (request : ℕ)
        → ((course.due ≡ Some request) × All (Contains course.marked) (marked_lanes setup w request) × (course.ended ≡ []))
        ↔ IsEnabled (duties setup turned (nth_worker setup.job w)) (progress_of setup (nth_worker setup.job w).node course) (draft turned feeds (kept.Turned request))
    turned_enabled request =
        let due = next_is setup (nth_worker setup.job w).node course.due request in
        subst (λ v. ((course.due ≡ Some request) × All (Contains course.marked) (marked_lanes setup v request) × (course.ended ≡ []))
        ↔ IsEnabled (duties setup turned (nth_worker setup.job w)) (progress_of setup (nth_worker setup.job w).node course) (draft turned feeds (kept.Turned request))) number
        (λ h. (due.0 h.0, h.1, h.2), λ h. (due.1 h.0, h.1, h.2))

    pub ended_enabled : (lane : ℕ)
        → (Contains (lanes_in setup.job w) lane × (¬ Contains course.ended lane) × (dues_from setup (nth_worker setup.job w).node course.due ≡ []) × (course.marked ≡ []))
        ↔ IsEnabled (duties setup turned (nth_worker setup.job w)) (progress_of setup (nth_worker setup.job w).node course) (draft turned feeds (kept.Ended lane))
    ended_enabled lane =
        subst (λ v. (Contains (lanes_in setup.job v) lane × (¬ Contains course.ended lane) × (dues_from setup (nth_worker setup.job w).node course.due ≡ []) × (course.marked ≡ []))
        ↔ IsEnabled (duties setup turned (nth_worker setup.job w)) (progress_of setup (nth_worker setup.job w).node course) (draft turned feeds (kept.Ended lane))) number
        (λ h. h, λ h. h)

    pub done_lanes : ((course.marked ≡ []) × All (Contains course.ended) (lanes_in setup.job w)) ↔ ((course.marked ≡ []) × All (Contains course.ended) (duties setup turned (nth_worker setup.job w)).lanes)
    done_lanes =
        subst (λ v. ((course.marked ≡ []) × All (Contains course.ended) (lanes_in setup.job v)) ↔ ((course.marked ≡ []) × All (Contains course.ended) (duties setup turned (nth_worker setup.job w)).lanes)) number
        (λ h. h, λ h. h)
