use Rattle.std.proofs.Common.{map}
use Rattle.flow_runners.specs.Crew.{setup_in}
use Rattle.flow_engine.specs.Recorded.{recorded}
use Rattle.flow_engine.proofs.Over.{HasTurned, are_over, has_run_so, job_recorded, to_workers}
use Rattle.flow_engine.proofs.run.run_over.Goals as goal

pub run_all-requires-clause-workers : goal.run_all-requires-clause-workers
run_all-requires-clause-workers g c κs within = to_workers (setup_in c.args.flow.now) g.B.Beginning.begin c.args.workers.items c.requires.crew

pub end_run-requires-clause-over : goal.end_run-requires-clause-over
end_run-requires-clause-over g c κs within =
    let setup = setup_in c.args.flow.now in
    let feeds = c.finish-parts.result.0.feeds in
    let fed = (g.F.Feeding.feeder c.args.feeder).outs in
    let left = map g.L.Tx.Tx.state c.finish-parts.result.0.outs.items in
    let f = g.F.Feeding.feeder c.in_ok-workers.field-0.feeder in (
      recorded g.F.Feeding.LIVE feeds setup,
      g.B.Beginning.begin,
      c.args.flow.now.rows.now,
      job_recorded g.F.Feeding.LIVE feeds setup,
      are_over setup g.B.Beginning.begin c.args.flow.now.rows.now c.args.workers.items c.in_ok-workers.field-0.workers.items fed left feeds f g.F.Feeding.LIVE
          c.endpoints_stay_matched.ensures c.workers_read_no_rows.ensures (record {
            starts = c.requires.states;
            first = c.requires.first;
            crew = c.requires.crew;
            matched = c.requires.matched;
            are = c.in_ok-workers.ensures.workers;
            done = c.in_ok-workers.ensures.done;
            same = c.in_ok-workers.ensures.fixed;
            law = c.in_ok-workers.ensures.feeder.law;
            endpoints = c.in_ok-workers.ensures.feeder.endpoints;
            stopped = c.in_ok-workers.ensures.stopped;
            feeds_are = c.finish-parts.ensures.feeds;
            outs_are = c.finish-parts.ensures.outs;
          }),
    )

pub returns-clause-run : goal.returns-clause-run
returns-clause-run g c =
    let setup = setup_in c.args.flow.now in
    let feeds = c.finish-parts.result.0.feeds in
    let f = g.F.Feeding.feeder c.in_ok-workers.field-0.feeder in
    let ended = c.in_ok-ended.ended in
    let fed = (g.F.Feeding.feeder c.args.feeder).outs in
    let left = map g.L.Tx.Tx.state c.finish-parts.result.0.outs.items in
    let turned : HasTurned g.F.Feeding.LIVE setup g.B.Beginning.begin c.args.flow.now.rows.now c.args.workers.items c.in_ok-workers.field-0.workers.items fed left feeds f = record {
      starts = c.requires.states;
      first = c.requires.first;
      crew = c.requires.crew;
      matched = c.requires.matched;
      are = c.in_ok-workers.ensures.workers;
      done = c.in_ok-workers.ensures.done;
      same = c.in_ok-workers.ensures.fixed;
      law = c.in_ok-workers.ensures.feeder.law;
      endpoints = c.in_ok-workers.ensures.feeder.endpoints;
      stopped = c.in_ok-workers.ensures.stopped;
      feeds_are = c.finish-parts.ensures.feeds;
      outs_are = c.finish-parts.ensures.outs;
    } in
    has_run_so setup g.B.Beginning.begin c.args.flow.now.rows.now c.args.workers.items c.in_ok-workers.field-0.workers.items fed left feeds f g.F.Feeding.LIVE ended.workers.items ended.feeds turned
    c.in_ok-ended.ensures.feeds c.in_ok-ended.ensures.workers
    (c.in_ok-ended.ensures.run (recorded g.F.Feeding.LIVE feeds setup) g.B.Beginning.begin c.args.flow.now.rows.now
    (job_recorded g.F.Feeding.LIVE feeds setup)
    (are_over setup g.B.Beginning.begin c.args.flow.now.rows.now c.args.workers.items c.in_ok-workers.field-0.workers.items fed left feeds f g.F.Feeding.LIVE c.endpoints_stay_matched.ensures c.workers_read_no_rows.ensures turned))
