-- Requests whose sizes are within their limits.
use Rattle.std.proofs.Common.{◌≡◌, ◌≤◌, ℕ, All, List, Option, None, Some, IfNone, length, sym}
use Rattle.std.proofs.lemmas.List.Elements.{All-weaker}
use Rattle.jobs.proofs.LimitLemmas.{first_oversize-none, option_or-none, outside-none}
use Rattle.jobs.specs.Limits.{Oversize, first_oversize, outside, oversize}
use Rattle.jobs.specs.declared.fault.Which.TheVariants as which
use Rattle.versions.specs.Kept.{HaveLimits}
use Rattle.versions.specs.declared.request.Change.{Change}
use Rattle.versions.specs.declared.request.Request.{Request}
use Rattle.job_file.specs.RequestSizes.{AreUpTo, change_oversize, list_oversize, request_oversize}

-- a request without a size outside of its limits has few changes, and each of their functions is within its own
abbrev WithinLimits : Request → Type 0
WithinLimits request = (length request.changes ≤ 64) × All (λ (change : Change). oversize change.func ≡ None) request.changes

request_oversize-none : (request : Request) → request_oversize request ≡ None → WithinLimits request
request_oversize-none request none =
    let (row, rest) = option_or-none (outside which.After 0 1048576 request.after) _ none in
    let (count, sizes) = option_or-none (outside which.Changes 0 64 (length request.changes)) (first_oversize change_oversize request.changes) rest in
    ((outside-none which.Changes 0 64 (length request.changes) count).1, first_oversize-none change_oversize request.changes sizes)

-- requests without a size outside of its limits are few, and their functions are within their limits
list_oversize-none : (most : ℕ) (requests : List Request) → list_oversize most requests ≡ None → AreUpTo most requests × HaveLimits requests
list_oversize-none most requests none =
    let (count, each) = option_or-none (outside which.Requests 0 most (length requests)) (first_oversize request_oversize requests) none in
    let within : All WithinLimits requests = All-weaker (λ (r : Request). request_oversize r ≡ None) WithinLimits request_oversize-none requests (first_oversize-none request_oversize requests each) in (
      record {
        count = (outside-none which.Requests 0 most (length requests) count).1;
        changes = All-weaker WithinLimits (λ (r : Request). length r.changes ≤ 64) (λ r both. both.0) requests within;
      },
      All-weaker WithinLimits (λ (r : Request). All (λ (change : Change). oversize change.func ≡ None) r.changes) (λ r both. both.1) requests within,
    )

pub IfNone-few : (most : ℕ) (requests : List Request) (answer : Option Oversize) → answer ≡ list_oversize most requests → IfNone answer (AreUpTo most requests)
IfNone-few most requests None is = (list_oversize-none most requests (sym is)).0
IfNone-few most requests (Some fault) is = tt

pub IfNone-limits : (most : ℕ) (requests : List Request) (answer : Option Oversize) → answer ≡ list_oversize most requests → IfNone answer (HaveLimits requests)
IfNone-limits most requests None is = (list_oversize-none most requests (sym is)).1
IfNone-limits most requests (Some fault) is = tt
