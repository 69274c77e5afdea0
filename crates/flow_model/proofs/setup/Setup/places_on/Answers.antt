use Rattle.std.proofs.Common.{◌∙◌, ◌+◌, ◌<◌, ℕ, ap, arith, refl, sym, subst, take}
use Rattle.std.specs.Prelude.{◌↔◌, IsTrue, length, slice_get}
use Rattle.jobs.specs.Job.{job_view}
use Rattle.flow_dag.specs.Masks.{Has}
use Rattle.flow_model.specs.Dues.{edges_in, is_on}
use Rattle.flow_model.specs.declared.setup.Setup.{Setup}
use Rattle.flow_model.specs.Lanes.{lanes_in}
use Rattle.flow_model.specs.Workers.{nth_worker, workers_in}
use Rattle.flow_model.proofs.DueLemmas.{bit_told, edge_at_place, number_within, places_more, places_same}
use Rattle.flow_model.proofs.FewLanes.{few_lanes}
use Rattle.flow_model.proofs.WorkerPlaces.{get-nth_worker}
use Rattle.flow_model.proofs.setup.Setup.places_on.Goals as goal
use Rattle.flow_model.proofs.setup.Setup.places_on.Goals.{then-has_wide_bit, else-has_wide_bit}

few : (setup : Setup) (worker : ℕ) → worker < length (workers_in (job_view setup.job)) → length (lanes_in (job_view setup.job) worker) < 128
few setup worker lt =
    let job = job_view setup.job in
    let most = few_lanes job worker (nth_worker job worker) setup.job.lawful (get-nth_worker job worker lt) in
    omega (arith, most)

pub lane-requires : goal.lane-requires
lane-requires c =
    number_within (job_view c.args.self.now.job) c.args.worker c.loop-place.place c.lanes_in-number-items.result.now c.lanes_in-number-items.ensures c.loop-place-test.true

pub overflow_cast-place : goal.overflow_cast-place
overflow_cast-place c =
    let l = few c.args.self.now c.args.worker c.requires in
    omega (arith, l, ap length c.lanes_in-number-items.ensures, c.loop-place-test.true)

pub with_wide_bit-places-requires : goal.with_wide_bit-places-requires
with_wide_bit-places-requires c =
    let l = few c.args.self.now c.args.worker c.requires in
    omega (arith, l, ap length c.lanes_in-number-items.ensures, c.loop-place-test.true)

pub loop-place-preserved : goal.loop-place-preserved
loop-place-preserved c =
    let job = job_view c.args.self.now.job in
    let i = c.loop-place.place in
    let all = edges_in job c.args.worker in
    let edge = edge_at_place job c.args.worker i c.lanes_in-number-items.result.now c.lane.result c.lanes_in-number-items.ensures c.loop-place-test.true c.lane.ensures.lane in
    let told = bit_told c.has_wide_bit.result c.args.edges c.lane.result.edge c.lane.result.edge c.has_wide_bit.ensures (λ k. c.lane.result.edge) in
    elim c.if-has_wide_bit.branch [
      | then-has_wide_bit w ↦ subst (λ m. (k : ℕ) → Has m k ↔ IsTrue (is_on c.args.edges (slice_get (take (i + 1) all) k))) (sym w.places-is)
          (places_more (is_on c.args.edges) c.loop-place.places w.with_wide_bit-places.result i c.lane.result.edge all edge (sym told ∙ w.if-has_wide_bit.true)
          w.with_wide_bit-places.ensures.set w.with_wide_bit-places.ensures.others c.loop-place.invariant)
      | else-has_wide_bit w ↦ subst (λ m. (k : ℕ) → Has m k ↔ IsTrue (is_on c.args.edges (slice_get (take (i + 1) all) k))) (sym w.places-is)
          (places_same (is_on c.args.edges) c.loop-place.places i c.lane.result.edge all edge refl (sym told ∙ w.if-has_wide_bit.false) c.loop-place.invariant)
    ]
