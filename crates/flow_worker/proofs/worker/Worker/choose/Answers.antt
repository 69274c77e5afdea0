use Rattle.std.proofs.Common.{◌∙◌, List, Option, ap, map}
use Rattle.marker_align.specs.Decision.{decided}
use Rattle.marker_align.specs.declared.decision.Due.{Due}
use Rattle.flow_worker.specs.Endpoints.{LaneInIs}
use Rattle.flow_worker.proofs.worker.Worker.choose.Goals as goal

pub returns : goal.returns
returns g c = rw (← c.self.view_is)
    (c.decide.ensures ∙ ap (λ (o : Option Due). decided (map (λ (a : LaneInIs). a.hand) c.self.inside.ins) o c.args.posted c.self.inside.next) c.as_ref.ensures.value)
