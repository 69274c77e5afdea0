use Rattle.std.proofs.Common.{◌≡◌, ◌+◌, ◌-◌, ◌++◌, ℕ, List, drop}
use Rattle.flow_model.specs.Feeding.{feed_after}
use Rattle.flow_model.specs.Requests.{afters}
use Rattle.flow_model.specs.Setup.{setup_view}
use Rattle.audit_laws.specs.Delivered.{feed_of}
use Rattle.audit_check.specs.Issuing.{AreIssuedUpTo}
use Rattle.audit_check.proofs.steps.feed_of_rows.Given as goal

abbrev pub invariant-loop-row : goal.invariant-loop-row
invariant-loop-row l =
    let all : List ℕ = afters (setup_view l.setup).requests in
    record {
      waits : AreIssuedUpTo all l.count l.row l.start.turned l.issued;
      feeds :
          l.feeds
          ++ feed_after (drop l.start.turned all) (l.start.turned + 1) l.row l.count
          (l.count - l.row)
          ≡ feed_of l.start (setup_view l.setup) l.rows;
    }
