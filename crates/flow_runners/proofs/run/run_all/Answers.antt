use Rattle.std.proofs.lemmas.Result.{IfOk-weaker}
use Rattle.flow_worker.specs.Turning.{IsDone}
use Rattle.flow_worker.specs.Worker.{IsWorker}
use Rattle.flow_runners.specs.Crew.{setup_in}
use Rattle.flow_runners.proofs.Crewing.{all_at, both_ok, each_all, in_order, workers_again}
use Rattle.flow_runners.proofs.run.run_all.Goals as goal

pub under-requires-clause-numbers : goal.under-requires-clause-numbers
under-requires-clause-numbers g c κs within = in_order _ c.requires.workers.number

pub under-requires-clause-law : goal.under-requires-clause-law
under-requires-clause-law g c κs within = all_at (IsWorker (setup_in c.args.flow.now) g.B.Beginning.begin) _ c.requires.workers.law

pub returns-clause-workers : goal.returns-clause-workers
returns-clause-workers g c =
    let setup = setup_in c.args.flow.now in
    let begin = g.B.Beginning.begin in
    both_ok c.under.result _ _ _ (λ r law fixed. workers_again setup begin c.args.workers.items r.workers.items c.requires.workers fixed law) c.under.ensures.law c.under.ensures.fixed

pub returns-clause-done : goal.returns-clause-done
returns-clause-done g c = IfOk-weaker c.under.result _ _ (λ r done. each_all IsDone r.workers.items done) c.under.ensures.done
