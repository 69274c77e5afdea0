-- The requests that judging accepts are some of those that are judged.
use Rattle.std.proofs.Common.{◌≡◌, ◌≤◌, ◌+◌, ℕ, List, [], ◌∷◌, Option, None, Some, All, inl, inr, length, arith}
use Rattle.jobs.specs.JobView.{JobView}
use Rattle.jobs.specs.Limits.{oversize}
use Rattle.versions.specs.Book.{accepted, first_book}
use Rattle.versions.specs.Judged.{accepting, by_fault, judged, judged_from, refusing}
use Rattle.versions.specs.Judging.{fault_of}
use Rattle.versions.specs.Kept.{HaveLimits}
use Rattle.versions.specs.declared.book.Current.{Current}
use Rattle.versions.specs.declared.fault.QFault.{QFault}
use Rattle.versions.specs.declared.request.Change.{Change}
use Rattle.versions.specs.declared.request.Request.{Request}
use Rattle.flow_model.proofs.ElementLemmas.{IsIn, all_of_at, at_of_all}

from_judged : (job : JobView) (book : List Current) (last place : ℕ) (requests : List Request) (r : Request) → IsIn r (judged_from None job book last place requests).accepted → IsIn r requests
unfolding judged_from
from_judged job book last place [] r i = absurd i
from_judged job book last place (q ∷ rest) r i =
    go (fault_of book job q last) i (from_judged job (accepted book q.changes) q.after (place + 1) rest r) (from_judged job book last (place + 1) rest r)
  where
    go : (o : Option QFault)
        → IsIn r (by_fault o (λ fault. refusing place fault (judged_from None job book last (place + 1) rest)) (accepting q (judged_from None job (accepted book q.changes) q.after (place + 1) rest))).accepted
        → (IsIn r (judged_from None job (accepted book q.changes) q.after (place + 1) rest).accepted → IsIn r rest)
        → (IsIn r (judged_from None job book last (place + 1) rest).accepted → IsIn r rest) → IsIn r (q ∷ rest)
    go None (inl e) f g = inl e
    go None (inr j) f g = inr (f j)
    go (Some fault) j f g = inr (g j)

few_judged : (job : JobView) (book : List Current) (last place : ℕ) (requests : List Request) → length (judged_from None job book last place requests).accepted ≤ length requests
unfolding judged_from
few_judged job book last place [] = omega arith
few_judged job book last place (q ∷ rest) =
    go (fault_of book job q last) (few_judged job (accepted book q.changes) q.after (place + 1) rest) (few_judged job book last (place + 1) rest)
  where
    go : (o : Option QFault) → length (judged_from None job (accepted book q.changes) q.after (place + 1) rest).accepted ≤ length rest → length (judged_from None job book last (place + 1) rest).accepted ≤ length rest
        → length (by_fault o (λ fault. refusing place fault (judged_from None job book last (place + 1) rest)) (accepting q (judged_from None job (accepted book q.changes) q.after (place + 1) rest))).accepted
        ≤ length (q ∷ rest)
    go None f g = omega (arith, f)
    go (Some fault) f g = omega (arith, g)

pub accepted_few : (job : JobView) (requests : List Request) → length (judged job requests).accepted ≤ length requests
accepted_few job requests = few_judged job (first_book job.nodes) 0 1 requests

pub accepted_limits : (job : JobView) (requests : List Request) → HaveLimits requests → HaveLimits (judged job requests).accepted
accepted_limits job requests limits =
    all_of_at (λ (request : Request). All (λ (change : Change). oversize change.func ≡ None) request.changes) (judged job requests).accepted (λ r i.
    at_of_all (λ (request : Request). All (λ (change : Change). oversize change.func ≡ None) request.changes) r requests limits (from_judged job (first_book job.nodes) 0 1 requests r i))
