use Rattle.std.proofs.Common.{refl}
use Rattle.flow_model.specs.Begin.{at_first}
use Rattle.flow_model.specs.Setup.{setup_view}
use Rattle.test_actors.proofs.Whole.{each_law, over}
use Rattle.test_actors.proofs.tests.whole.whole.Goals as goal

pub until_stopped-requires-clause-law : goal.until_stopped-requires-clause-law
until_stopped-requires-clause-law g c κs within = c.in_ok-feeder.ensures.law c.args.rows.now

pub all_done-requires-after_bounds : goal.all_done-requires-after_bounds
all_done-requires-after_bounds g c κs within = each_law (setup_view c.args.setup.now) (at_first (setup_view c.args.setup.now)) c.in_ok-workers.field-0.workers.items c.in_ok-workers.ensures.workers

pub end_run-requires-clause-over : goal.end_run-requires-clause-over
end_run-requires-clause-over g c κs within =
    let setup = setup_view c.args.setup.now in
    let made = c.in_ok-workers in
    let done = c.in-Some-all_done.ensures in (
      setup,
      at_first setup,
      c.args.rows.now,
      refl,
      over setup c.args.rows.now made.field-0.workers.items c.in-Some-all_done.workers.items _ _ c.in_ok-feeder.feeder c.in-Some.feeder c.finish-parts.result.0.feeds made.ensures.workers made.ensures.matched c.in_ok-feeder.ensures.outs
          done.law done.done done.number done.lanes c.in-Some.ensures.law c.in-Some.ensures.stopped c.in-Some.ensures.endpoints c.finish-parts.ensures.feeds c.finish-parts.ensures.outs,
    )

pub returns : goal.returns
returns g c =
    let setup = setup_view c.args.setup.now in
    let made = c.in_ok-workers in
    let done = c.in-Some-all_done.ensures in
    c.in_ok-ended.ensures.run setup (at_first setup) c.args.rows.now refl
    (over setup c.args.rows.now made.field-0.workers.items c.in-Some-all_done.workers.items _ _ c.in_ok-feeder.feeder c.in-Some.feeder c.finish-parts.result.0.feeds made.ensures.workers made.ensures.matched c.in_ok-feeder.ensures.outs
    done.law done.done done.number done.lanes c.in-Some.ensures.law c.in-Some.ensures.stopped c.in-Some.ensures.endpoints c.finish-parts.ensures.feeds c.finish-parts.ensures.outs)
