use Rattle.std.proofs.Common.{◌≡◌, ◌∙◌, ap, arith, length, map, List, ℕ}
use Rattle.std.specs.List.{range_with_len}
use Rattle.std.proofs.lemmas.List.{length-map}
use Rattle.jobs.specs.Job.{job_view}
use Rattle.flow_model.specs.declared.topology.Lane.{Lane}
use Rattle.flow_model.specs.declared.topology.WorkerAt.{WorkerAt}
use Rattle.flow_model.specs.Lanes.{lanes}
use Rattle.flow_model.specs.Topology.{numbers_out, numbers_in, worker_of}
use Rattle.flow_model.specs.Workers.{workers_in}
use Rattle.flow_model.proofs.SizeLemmas.{lanes-few, workers-few}
use Rattle.flow_model.proofs.topology.Topology.of.Goals as goal

pub numbers_in_each-requires-clause-workers : goal.numbers_in_each-requires-clause-workers
numbers_in_each-requires-clause-workers c =
    let long = ap (length {A = WorkerAt}) c.in_ok-workers.ensures in
    omega (arith, c.len.ensures, long, length-map (workers_in (job_view c.args.job.now)) worker_of, workers-few (job_view c.args.job.now) c.args.job.now.lawful)

pub numbers_in_each-requires-clause-lanes : goal.numbers_in_each-requires-clause-lanes
numbers_in_each-requires-clause-lanes c =
    let long = ap (length {A = Lane}) (c.as_slice.ensures ∙ c.in_ok-lanes.ensures) in
    omega (arith, long, lanes-few (job_view c.args.job.now) c.args.job.now.lawful)

pub numbers_out_each-requires-clause-workers : goal.numbers_out_each-requires-clause-workers
numbers_out_each-requires-clause-workers c =
    let long = ap (length {A = WorkerAt}) c.in_ok-workers.ensures in
    omega (arith, c.len-2.ensures, long, length-map (workers_in (job_view c.args.job.now)) worker_of, workers-few (job_view c.args.job.now) c.args.job.now.lawful)

pub numbers_out_each-requires-clause-lanes : goal.numbers_out_each-requires-clause-lanes
numbers_out_each-requires-clause-lanes c =
    let long = ap (length {A = Lane}) (c.as_slice-2.ensures ∙ c.in_ok-lanes.ensures) in
    omega (arith, long, lanes-few (job_view c.args.job.now) c.args.job.now.lawful)

pub returns : goal.returns
returns c =
    let job = job_view c.args.job.now in
    let many : c.len.result ≡ length (workers_in job) = c.len.ensures ∙ (ap (length {A = WorkerAt}) c.in_ok-workers.ensures ∙ length-map (workers_in job) worker_of) in
    let into = c.in_ok-lanes_in.ensures ∙ (ap (λ (all : List Lane). map (numbers_in all) (range_with_len 0 c.len.result)) (c.as_slice.ensures ∙ c.in_ok-lanes.ensures) ∙ ap (λ (n : ℕ). map (numbers_in (lanes job)) (range_with_len 0 n)) many) in
    let many_out : c.len-2.result ≡ length (workers_in job) = c.len-2.ensures ∙ (ap (length {A = WorkerAt}) c.in_ok-workers.ensures ∙ length-map (workers_in job) worker_of) in
    let from = c.in_ok-lanes_out.ensures ∙ (ap (λ (all : List Lane). map (numbers_out all) (range_with_len 0 c.len-2.result)) (c.as_slice-2.ensures ∙ c.in_ok-lanes.ensures) ∙ ap (λ (n : ℕ). map (numbers_out (lanes job)) (range_with_len 0 n)) many_out) in
    λ i. record { workers = c.in_ok-workers.ensures i; lanes = c.in_ok-lanes.ensures i; lanes_in = into i; lanes_out = from i; out_edges = c.in_ok-out_edges.ensures i; ports = c.in_ok-ports.ensures i }
