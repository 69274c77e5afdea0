use Rattle.std.proofs.Common.{◌≡◌, ◌<◌, ◌≤◌, ◌++◌, ℕ, List, Some, min}
use Rattle.std.specs.Prelude.{slice_get}
use Rattle.flow_model.specs.Requests.{afters}
use Rattle.flow_model.specs.Setup.{setup_view}
use Rattle.audit_check.specs.Issuing.{issues}
use Rattle.audit_check.proofs.steps.push_due.Given as goal

abbrev pub invariant-loop-place : goal.invariant-loop-place
invariant-loop-place l =
    let waits : List ℕ = afters (setup_view l.setup).requests in
    record {
      more : l.fn.issued ≤ l.place;
      past :
          (i after : ℕ) → slice_get waits i ≡ Some after → l.fn.issued ≤ i → i < l.place →
          min after l.rows ≤ l.row;
      feeds :
          l.feeds ++ issues waits l.rows l.row l.place
          ≡ l.fn.feeds ++ issues waits l.rows l.row l.fn.issued;
    }
