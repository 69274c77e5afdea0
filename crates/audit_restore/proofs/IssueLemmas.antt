-- How many requests a feed issues.
use Rattle.std.proofs.Common.{◌≡◌, ◌<◌, ◌≤◌, ◌+◌, ◌-◌, ◌^◌, ◌==◌, ◌++◌, ℕ, zero, suc, List, [], ◌∷◌, arith, true, false, Bool, cond, drop, length, min}
use Rattle.std.specs.Prelude.{nat_le}
use Rattle.std.proofs.lemmas.List.{length-drop, length-map}
use Rattle.sink_journal.specs.declared.journal.Feed.{Feed}
use Rattle.sink_journal.specs.declared.journal.Feed.TheVariants as feed
use Rattle.tuple_trace.specs.declared.row.Row.{Row}
use Rattle.versions.specs.declared.request.Request.{Request}
use Rattle.flow_model.specs.Begin.{Begin}
use Rattle.flow_model.specs.Feeding.{feed_after, issued_where}
use Rattle.flow_model.specs.Requests.{afters}
use Rattle.flow_model.specs.SetupView.{SetupView}
use Rattle.audit_laws.specs.Delivered.{feed_of}
use Rattle.audit_journal.proofs.FedLemmas.{count, count_few, count_next, count_up_to}

abbrev pub issues_in : List Feed → ℕ
issues_in [] = 0
issues_in (feed.Fed row ∷ more) = issues_in more
issues_in (feed.Issued request ∷ more) = suc (issues_in more)
issues_in (feed.Stopped ∷ more) = issues_in more

issues_where : (test : ℕ → Bool) (rows r : ℕ) (waits : List ℕ) (more : List Feed) →
    issues_in (issued_where test rows r waits ++ more) ≡ count test rows waits + issues_in more
issues_where test rows r [] more = omega arith
issues_where test rows r (a ∷ waits) more =
    go (test (min a rows)) (issues_where test rows (r + 1) waits more)
  where
    go : (b : Bool) →
        issues_in (issued_where test rows (r + 1) waits ++ more)
        ≡ count test rows waits + issues_in more →
        issues_in (cond b (feed.Issued r ∷ issued_where test rows (r + 1) waits)
        (issued_where test rows (r + 1) waits) ++ more)
        ≡ cond b (suc (count test rows waits)) (count test rows waits) + issues_in more
    go true ih = omega (arith, ih)
    go false ih = ih

issues_after : (rows r k left : ℕ) (waits : List ℕ) →
    count_up_to k rows waits + issues_in (feed_after waits r k rows left) ≤ length waits
issues_after rows r k zero waits =
    let few = count_few (λ a. nat_le a k) rows waits in omega (arith, few)
issues_after rows r k (suc left) waits =
    let here =
    issues_where (λ a. a == k + 1) rows r waits (feed_after waits r (k + 1) rows left) in
    let next = count_next rows k waits in
    let later = issues_after rows r (k + 1) left waits in
    omega (arith, here, next, later)

-- the requests that a feed issues, after those that were issued before it, are in range
pub few_issues : (begin : Begin) (setup : SetupView) (rows : List Row) → begin.turned < 2 ^ 64 →
    length setup.requests < 2 ^ 64 → begin.turned + issues_in (feed_of begin setup rows) < 2 ^ 64
few_issues begin setup rows turned many =
    let waits = drop begin.turned (afters setup.requests) in
    let after = feed_after waits (begin.turned + 1) begin.row (length rows)
    (length rows - begin.row) in
    let first =
    issues_where (λ a. nat_le a begin.row) (length rows) (begin.turned + 1) waits after in
    let later =
    issues_after (length rows) (begin.turned + 1) begin.row (length rows - begin.row) waits in
    let left = length-drop begin.turned (afters setup.requests) in
    let long = length-map setup.requests (λ (request : Request). request.after) in
    omega (arith, first, later, left, long, turned, many)
