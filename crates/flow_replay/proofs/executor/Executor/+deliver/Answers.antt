use Rattle.std.proofs.Common.{◌≡◌, ◌∙◌, ◌<◌, ◌-◌, ℕ, Option, Some, None, ap, arith, length, refl, subst, sym}
use Rattle.std.proofs.lemmas.List.{nil_from_length}
use Rattle.std.proofs.lemmas.Option.{slice_get_within}
use Rattle.std.specs.Vec.Iter.{into_iter_items}
use Rattle.jobs.specs.Job.{job_view}
use Rattle.operators.specs.declared.output.Output.{Output}
use Rattle.flow_model.specs.Lanes.{lane_at, lane_of, lanes, senders}
use Rattle.flow_model.specs.Setup.{setup_view}
use Rattle.flow_model.specs.declared.setup.Setup.{Setup}
use Rattle.flow_model.specs.declared.topology.WorkerAt.{WorkerAt}
use Rattle.flow_replay.specs.inner.Delivery.{IsDelivered, rank_behind, rank_in}
use Rattle.flow_replay.proofs.DeliveryLemmas.{ends_at, falls_at, found_lane, goes_at, read_lane, skips_at, way_at}
use Rattle.flow_replay.proofs.ExecutorLemmas.{along_is, same_both}
use Rattle.flow_replay.proofs.SetupLemmas.{ranked}
use Rattle.flow_replay.proofs.WorkerRunLemmas.{worker_sends}
use Rattle.flow_replay.proofs.executor.Executor.+deliver.Goals as goal

pub loop-out-init : goal.loop-out-init
loop-out-init t c =
    let setup = c.args.self.now.setup.now in
    let job = job_view setup.job in
    let items = c.into_iter-out-iterator.ensures.into_iter_gives in
    let (there, received) =
    read_lane job c.args.lane c.lane-worker.result c.lane-worker.ensures.lane in
    record {
      may = tt;
      finite = tt;
      counted =
          let b = c.into_vec-out-items.result.ok.0 in
          omega (arith, items.1, b, ap (length {A = Output}) items.0);
      same = c.in_ok-outs.ensures.same;
      way =
          way_at (setup_view setup) (rank_in setup) c.args.lane (lane_at job c.args.lane).receiver
          c.args.tuple c.args.self.now.runs.items c.process.new.self.runs.items
          (into_iter_items c.into_iter-out-iterator.result) there refl
          c.args.self.now.one_each c.in_ok-outs.ensures.step
          (items.0 ∙ (c.into_vec-out-items.ensures ∙ c.in_ok-outs.ensures.outs));
    }

pub route-requires : goal.route-requires
route-requires t c =
    let job = job_view c.args.self.now.setup.now.job in
    let w = c.lane-worker.result.receiver in
    let at = c.worker_at-at.result in
    subst (λ (s : Setup). at.place < length (senders (job_view s.job) at.node))
    (sym c.loop-out.invariant.same.setup_is)
    (slice_get_within (senders job at.node) at.place (Some w)
    (worker_sends job w at c.lane-worker.ensures.receiver c.worker_at-at.ensures.at))

pub deliver-requires : goal.deliver-requires
deliver-requires t c =
    let setup = c.args.self.now.setup.now in
    let job = job_view setup.job in
    let w = c.lane-worker.result.receiver in
    let at = c.worker_at-at.result in
    let out = c.in-Some.out in
    let next = c.in-Some-route.next in
    let (there, received) =
    read_lane job c.args.lane c.lane-worker.result c.lane-worker.ensures.lane in
    let along =
    along_is c.loop-out.self.setup.now setup at w next out.port out.tuple
    c.loop-out.invariant.same.setup_is
    (worker_sends job w at c.lane-worker.ensures.receiver c.worker_at-at.ensures.at)
    c.in-Some-route.ensures.some in
    let falls =
    falls_at job (rank_in setup) c.args.lane w next at.node out (ranked setup)
    setup.job.lawful there received (ap (λ (a : WorkerAt). a.node) c.worker_at-at.ensures.at)
    along in
    let f = subst (λ (s : Setup). 64 - rank_behind (job_view s.job) (rank_in s) next
    < 64 - rank_behind job (rank_in setup) c.args.lane)
    (sym c.loop-out.invariant.same.setup_is) falls in
    let d = c.decreases in
    let within =
    slice_get_within (lanes job) next _
    (found_lane job (lane_of job (Some w) at.node out.port out.tuple) next along).0 in (
      omega (arith, f, d),
      subst (λ (s : Setup). next < length (lanes (job_view s.job)))
          (sym c.loop-out.invariant.same.setup_is) within,
    )

pub loop-out-preserved-in-Continue-branch-2 : goal.loop-out-preserved-in-Continue-branch-2
loop-out-preserved-in-Continue-branch-2 t c =
    let setup = c.args.self.now.setup.now in
    let job = job_view setup.job in
    let w = c.lane-worker.result.receiver in
    let at = c.worker_at-at.result in
    let out = c.in-Some.out in
    let next = c.in-Some-route.next in
    let (there, received) =
    read_lane job c.args.lane c.lane-worker.result c.lane-worker.ensures.lane in
    let along =
    along_is c.loop-out.self.setup.now setup at w next out.port out.tuple
    c.loop-out.invariant.same.setup_is
    (worker_sends job w at c.lane-worker.ensures.receiver c.worker_at-at.ensures.at)
    c.in-Some-route.ensures.some in
    let delivered = subst (λ (s : Setup). IsDelivered (setup_view s) (rank_in s) next out.tuple
    c.loop-out.self.runs.items c.deliver.new.self.runs.items)
    c.loop-out.invariant.same.setup_is c.in_ok-deliver-in-Some-route.ensures.delivered in
    record {
      may = tt;
      finite = tt;
      counted =
          let a = c.in-Some.ensures.steps in
          let b = ap (length {A = Output}) a.0 in
          omega (arith, a.1, b, c.loop-out.invariant.counted);
      same = same_both c.args.self.now c.loop-out.self c.deliver.new.self
          c.loop-out.invariant.same c.in_ok-deliver-in-Some-route.ensures.same;
      way =
          goes_at (setup_view setup) (rank_in setup) c.args.lane w next c.args.tuple
          (into_iter_items c.loop-out.out-iterator) out (into_iter_items c.next.new.self) at.node
          c.args.self.now.runs.items c.loop-out.self.runs.items c.deliver.new.self.runs.items
          (ranked setup) there received (ap (λ (a : WorkerAt). a.node) c.worker_at-at.ensures.at)
          c.in-Some.ensures.steps.0 c.loop-out.invariant.way along delivered;
    }

pub loop-out-preserved : goal.loop-out-preserved
loop-out-preserved t c =
    let setup = c.args.self.now.setup.now in
    let job = job_view setup.job in
    let w = c.lane-worker.result.receiver in
    let at = c.worker_at-at.result in
    let out = c.in-Some.out in
    let (there, received) =
    read_lane job c.args.lane c.lane-worker.result c.lane-worker.ensures.lane in
    let none = subst (λ (s : Setup). (from : Option ℕ) →
    lane_of (job_view s.job) from at.node out.port out.tuple ≡ None)
    c.loop-out.invariant.same.setup_is c.in-None-route.ensures.none in
    record {
      may = tt;
      finite = tt;
      counted =
          let a = c.in-Some.ensures.steps in
          let b = ap (length {A = Output}) a.0 in
          omega (arith, a.1, b, c.loop-out.invariant.counted);
      same = c.loop-out.invariant.same;
      way =
          skips_at (setup_view setup) (rank_in setup) c.args.lane w c.args.tuple
          (into_iter_items c.loop-out.out-iterator) out (into_iter_items c.next.new.self) at.node
          c.args.self.now.runs.items c.loop-out.self.runs.items there received
          (ap (λ (a : WorkerAt). a.node) c.worker_at-at.ensures.at) c.in-Some.ensures.steps.0
          c.loop-out.invariant.way (none (Some w));
    }

pub returns-clause-delivered : goal.returns-clause-delivered
returns-clause-delivered t c =
    let setup = c.args.self.now.setup.now in
    ends_at (setup_view setup) (rank_in setup) c.args.lane c.args.tuple
    (into_iter_items c.loop-out.out-iterator) c.args.self.now.runs.items
    c.loop-out.self.runs.items
    (nil_from_length _ (omega (arith, c.in-None.ensures.steps.0, c.loop-out.invariant.counted)))
    c.loop-out.invariant.way
