use Rattle.std.proofs.Common.{List, ap, false, map, subst, sym}
use Rattle.control_box.specs.Endpoints.{PosterIs, ShareBoxes}
use Rattle.flow_model.specs.Begin.{Begin}
use Rattle.flow_worker.specs.Worker.{WorkerIs}
use Rattle.lane_core.specs.Lane.{EndpointIs}
use Rattle.flow_crew.specs.Sides.{AreMatched, worker_side}
use Rattle.flow_runners.specs.Crew.{IsFeederOf}
use Rattle.flow_engine.proofs.run.run_begun.Goals as goal

pub run_over-requires-clause-matched : goal.run_over-requires-clause-matched
run_over-requires-clause-matched g c κs within =
    subst (λ (outs : List EndpointIs). AreMatched (map worker_side c.in_ok-workers.field-0.workers.items) outs) (sym c.in_ok-feeder.ensures.outs) c.in_ok-workers.ensures.matched

pub run_over-requires-clause-feeder : goal.run_over-requires-clause-feeder
run_over-requires-clause-feeder g c κs within =
    subst (λ (b : Begin). IsFeederOf false c.args.flow.now b c.in_ok-feeder.feeder) (sym c.requires.begin)
    (c.in_ok-feeder.ensures.law c.args.start c.args.flow.now.rows.now (ap (λ (b : Begin). b.row) (sym c.start.view_is)) (ap (λ (b : Begin). b.turned) (sym c.start.view_is)))

pub run_over-requires-clause-boxes : goal.run_over-requires-clause-boxes
run_over-requires-clause-boxes g c κs within =
    subst (λ (posters : List PosterIs). ShareBoxes posters (map (λ (w : WorkerIs). w.owner) c.in_ok-workers.field-0.workers.items)) (sym c.in_ok-feeder.ensures.boxes) c.in_ok-workers.ensures.boxes
