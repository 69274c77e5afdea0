use Rattle.std.proofs.Common.{◌≡◌, ◌++◌, ◌∷◌, [], List, ap, ap₂, arith, length, length-append}
use Rattle.std.specs.Vec.Iter.{into_iter_items}
use Rattle.flow_worker.specs.Turning.{IsDone}
use Rattle.flow_worker.specs.Worker.{IsWorker, WorkerIs}
use Rattle.flow_runner.specs.Rule.{HasEnded}
use Rattle.flow_runner.specs.Runner.{RunnerIs}
use Rattle.flow_runners.proofs.Crewing.{all_more, all_rest, fixed_more}
use Rattle.flow_runners.proofs.crew.to_workers.Goals as goal

pub loop-runner-preserved : goal.loop-runner-preserved
loop-runner-preserved g c =
    let was = c.loop-runner.invariant in
    let next = c.in-Some.ensures.steps in
    let rest = into_iter_items c.next.new.self in
    let ws = c.loop-runner.workers.items in
    let made = c.into_worker.ensures in
    let pushed : c.push_reserved.new.self.items ≡ ws ++ c.into_worker.result ∷ [] = c.push_reserved.ensures.items in
    let fewer = ap (λ (rs : List RunnerIs). length rs) next.0 in
    let long = ap (λ (vs : List WorkerIs). length vs) pushed in
    let longer = length-append ws (c.into_worker.result ∷ []) in record {
      may = tt;
      finite = tt;
      counted = omega (arith, next.1, fewer, was.counted);
      room = omega (arith, fewer, long, longer, c.push_reserved.ensures.capacity, was.room);
      ended = all_rest HasEnded _ rest c.in-Some.runner next.0 was.ended;
      fixed = fixed_more ws _ c.into_worker.result _ rest c.in-Some.runner _ pushed next.0 (ap₂ (λ a b. (a, b)) made.number made.endpoints) was.fixed;
      law = all_more (IsWorker g.C.Charter.setup g.C.Charter.begin) ws _ c.into_worker.result pushed was.law made.law;
      done = all_more IsDone ws _ c.into_worker.result pushed was.done made.done;
    }
