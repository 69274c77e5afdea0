use Rattle.flow_model.specs.Setup.{setup_view}
use Rattle.flow_crew.proofs.Ending.{run_so}
use Rattle.flow_crew.proofs.Having.{have_so, matched_so, room_in, room_out}
use Rattle.flow_crew.proofs.ended.end_run.Goals as goal

pub finish_all-requires-clause-room_in : goal.finish_all-requires-clause-room_in
finish_all-requires-clause-room_in g c κs within = let o = c.requires.over in room_in o.0 o.1 o.2 c.args.workers.items _ _ o.4

pub finish_all-requires-clause-room_out : goal.finish_all-requires-clause-room_out
finish_all-requires-clause-room_out g c κs within = let o = c.requires.over in room_out o.0 o.1 o.2 c.args.workers.items _ _ o.4

pub settle_all-requires-clause-lanes : goal.settle_all-requires-clause-lanes
settle_all-requires-clause-lanes g c κs within =
    let o = c.requires.over in
    have_so o.0 o.1 o.2 c.args.workers.items _ _ o.4 (setup_view c.args.setup.now).job c.in_ok-workers.sides.items o.3 c.in_ok-workers.ensures.sides

pub settle_all-requires-clause-matched : goal.settle_all-requires-clause-matched
settle_all-requires-clause-matched g c κs within =
    let o = c.requires.over in
    matched_so o.0 o.1 o.2 c.args.workers.items _ _ o.4 c.in_ok-workers.sides.items c.in_ok-workers.ensures.sides

pub returns-clause-run : goal.returns-clause-run
returns-clause-run g c ran begin rows job over =
    run_so ran begin rows c.args.workers.items _ _ over (setup_view c.args.setup.now).job c.in_ok-workers.sides.items c.in_ok-workers.workers.items job c.in_ok-workers.ensures.sides
    c.in_ok-workers.ensures.workers c.in_ok-settle_all.ensures
