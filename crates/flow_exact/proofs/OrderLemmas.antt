-- Requests that are issued one by one, in their order.
use Rattle.std.proofs.Common.{◌≡◌, ◌∙◌, ◌≤◌, ◌<◌, ◌+◌, ◌++◌, ℕ, List, [], ◌∷◌, Some, ap}
use Rattle.std.proofs.Common.{arith, drop, length, refl, slice_get, slice_index_or, subst, sym}
use Rattle.std.proofs.Common.{take}
use Rattle.std.proofs.Math.Logic.{∥∥₁_map}
use Rattle.std.proofs.lemmas.Option.{slice_get-get_or, slice_get_read}
use Rattle.cover_planner.specs.declared.cover.Plan.{Plan}
use Rattle.jobs.specs.Job.{job_view}
use Rattle.versions.specs.Judged.{AreAccepted}
use Rattle.versions.specs.Kept.{AreInOrder}
use Rattle.versions.specs.declared.request.Request.{Request}
use Rattle.flow_model.specs.Planned.{IsPlanned, extended}
use Rattle.flow_model.specs.Setup.{setup_view}
use Rattle.flow_model.specs.SetupView.{SetupView}
use Rattle.flow_model.specs.declared.setup.Setup.{Setup}
use Rattle.flow_model.proofs.FreshLemmas.{order_weaker}
use Rattle.flow_model.proofs.TopologyLemmas.{drop-at, take-next}
use Rattle.savepoint.specs.Parts.{first_of}
use Rattle.savepoint.proofs.CutLemmas.{AreAccepted-take, IsPlanned-first_of}
use Rattle.flow_exact.specs.inner.Course.{with_requests}

-- the next request waits for this row or a later one
pub waits_next : (row i : ℕ) (requests : List Request) (request : Request)
    → slice_get requests i ≡ Some request → AreInOrder row (drop i requests)
    → row ≤ request.after
waits_next row i requests request e is =
    (subst (AreInOrder row) (drop-at requests i request e) is).0

-- the requests after it are in order after each row that it waits for
pub in_order_next : (row new i : ℕ) (requests : List Request) (request : Request)
    → slice_get requests i ≡ Some request → AreInOrder row (drop i requests)
    → new ≤ request.after → AreInOrder new (drop (i + 1) requests)
in_order_next row new i requests request e is le =
    order_weaker new request.after (drop (i + 1) requests) le
    (subst (AreInOrder row) (drop-at requests i request e) is).1

-- the first requests of a setup and the next one are its first requests too
pub first_next : (whole : SetupView) (i : ℕ) (request : Request) (plan : Plan)
    → slice_get whole.requests i ≡ Some request → slice_get whole.plans i ≡ Some plan
    → extended (first_of whole i) (request ∷ []) (plan ∷ []) ≡ first_of whole (i + 1)
first_next whole i request plan e f =
    ap (λ (l : List Request). record whole {
      requests = l;
      plans = take i whole.plans ++ plan ∷ [];
    }) (sym (take-next whole.requests i request e))
    ∙ ap (λ (l : List Plan). record whole { requests = take (i + 1) whole.requests; plans = l })
    (sym (take-next whole.plans i plan f))

-- ---- a setup whose requests are issued one by one

-- the setup has the first of these requests, and the next one is put to them
module _ (whole : SetupView) (setup : Setup) (i : ℕ) (request : Request) (plan : Plan)
    (is : setup_view setup ≡ first_of whole i) (e : slice_get whole.requests i ≡ Some request)
    (f : slice_get whole.plans i ≡ Some plan) where
  pub accepted_next : AreAccepted whole.job whole.requests
      → AreAccepted (job_view setup.job) (setup.judged.accepted ++ request ∷ [])
  accepted_next accepted =
      subst (λ (s : SetupView). AreAccepted s.job (s.requests ++ request ∷ [])) (sym is)
      (subst (AreAccepted whole.job) (take-next whole.requests i request e)
      (AreAccepted-take whole.job (i + 1) whole.requests accepted))

  pub planned_next : ∥ IsPlanned whole ∥₁
      → ∥ IsPlanned (extended (setup_view setup) (request ∷ []) (plan ∷ [])) ∥₁
  planned_next planned =
      subst (λ (s : SetupView). ∥ IsPlanned (extended s (request ∷ []) (plan ∷ [])) ∥₁) (sym is)
      (∥∥₁_map planned (λ of. subst IsPlanned (sym (first_next whole i request plan e f))
      (IsPlanned-first_of whole (i + 1) of)))

  pub setup_next : (made : Setup)
      → setup_view made ≡ extended (setup_view setup) (request ∷ []) (plan ∷ [])
      → setup_view made ≡ first_of whole (i + 1)
  setup_next made of =
      of
      ∙ (ap (λ (s : SetupView). extended s (request ∷ []) (plan ∷ [])) is
      ∙ first_next whole i request plan e f)

-- at first it has none of them
pub setup_none : (setup : Setup) (requests : List Request) (plans : List Plan)
    → setup.judged.accepted ≡ [] → setup.plans ≡ []
    → setup_view setup ≡ first_of (with_requests (setup_view setup) requests plans) 0
setup_none setup requests plans a b =
    ap (λ (l : List Request). with_requests (setup_view setup) l setup.plans) a
    ∙ ap (λ (l : List Plan). with_requests (setup_view setup) [] l) b

-- a setup whose requests were taken out, and all put to it again, is the setup as it was
pub setup_again : (whole : SetupView) (emptied begun issued fed : Setup)
    (requests : List Request) (plans : List Plan) → setup_view emptied ≡ first_of whole 0
    → requests ≡ whole.requests → plans ≡ whole.plans → begun ≡ emptied
    → setup_view issued ≡ with_requests (setup_view begun) requests plans → fed ≡ issued
    → setup_view fed ≡ whole
setup_again whole emptied begun issued fed requests plans none a b same all last =
    ap setup_view last
    ∙ (all
    ∙ (ap (λ (s : Setup). with_requests (setup_view s) requests plans) same
    ∙ (ap (λ (s : SetupView). with_requests s requests plans) none
    ∙ (ap (λ (l : List Request). with_requests whole l plans) a
    ∙ ap (λ (l : List Plan). with_requests whole whole.requests l) b))))

-- ---- reading

pub request_read : (requests : List Request) (place : ℕ) (request : Request)
    → place < length requests → request ≡ slice_index_or requests place request
    → slice_get requests place ≡ Some request
request_read requests place request lt is =
    slice_get_read requests (length requests) place request refl lt is

pub plan_read : (requests seen : List Request) (plans held : List Plan) (place : ℕ) (none : Plan)
    → seen ≡ requests → held ≡ plans → length plans ≡ length requests → place < length seen
    → slice_get held place ≡ Some (slice_index_or held place none)
plan_read requests seen plans held place none a b each lt =
    let few : place < length held =
    omega (
      arith,
      lt,
      each,
      ap (λ (l : List Request). length l) a,
      ap (λ (l : List Plan). length l) b,
    ) in
    slice_get-get_or held place none few
