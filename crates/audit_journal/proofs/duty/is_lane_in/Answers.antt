use Rattle.std.proofs.Common.{refl}
use Rattle.flow_model.specs.Setup.{setup_view}
use Rattle.audit_journal.proofs.LaneLemmas.{in_lane, lane_in}
use Rattle.audit_journal.proofs.duty.is_lane_in.Goals as goal

pub returns-in-Some : goal.returns-in-Some
returns-in-Some c =
    let here = c.in-Some.ensures.some in
    (λ t. lane_in (setup_view c.args.who.setup.now).job c.args.who.number c.args.lane _ here.0 here.1, λ m. refl)

pub returns-in-None : goal.returns-in-None
returns-in-None c = (
  λ f. absurd (cc),
  λ m. let l = in_lane (setup_view c.args.who.setup.now).job c.args.who.number c.args.lane m in absurd (c.in-None.ensures.none l.0 (l.1, l.2)),
)
