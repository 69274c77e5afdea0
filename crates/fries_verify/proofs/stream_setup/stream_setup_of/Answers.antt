use Rattle.std.proofs.Common.{◌≡◌, ◌∙◌, ℕ, Some, ap, subst, sym}
use Rattle.std.specs.Prelude.{IsTrue}
use Rattle.flow_dag.specs.Masks.{Has}
use Rattle.flow_model.specs.Planned.{is_made_split}
use Rattle.jobs.specs.Job.{job_view}
use Rattle.jobs.specs.declared.job.Job.{Job}
use Rattle.versions.specs.Judged.{AreAccepted, judged_within}
use Rattle.versions.specs.declared.in_order.Judged.{Judged}
use Rattle.stream_intake.specs.Intake.{IsMaskOfNodes}
use Rattle.stream_intake.proofs.MaskLemmas.{mask_of_some, one_mask}
use Rattle.fries_verify.proofs.stream_setup.stream_setup_of.Goals as goal

pub make_for_stream-requires : goal.make_for_stream-requires
make_for_stream-requires c =
    subst (λ (j : Judged). AreAccepted (job_view c.in_ok-job.field-0.job) j.accepted)
    (sym c.in_ok-judged.ensures)
    (c.accepted_requests_stay_accepted.ensures (Some c.in_ok-job.field-0.splits)
    (job_view c.in_ok-job.field-0.job) c.args.requests.now)

pub returns : goal.returns
returns c =
    let setup = c.in_ok-setup.setup in
    let mask : ℕ = c.in_ok-job.field-0.splits in
    let view = job_view c.args.job in
    let requests = c.args.requests.now in
    let job : setup.job ≡ c.args.job = c.in_ok-setup.ensures.job ∙ c.in_ok-job.ensures.job in
    let judged : setup.judged ≡ judged_within (Some mask) view requests =
    c.in_ok-setup.ensures.judged
    ∙ (c.in_ok-judged.ensures
    ∙ ap (λ (j : Job). judged_within (Some mask) (job_view j) requests) c.in_ok-job.ensures.job) in
    let within : (node : ℕ) → IsTrue (is_made_split setup.judged.accepted node) → Has mask node =
    λ node is.
    c.accepted_requests_split_within.ensures mask view requests node
    (subst (λ (j : Judged). IsTrue (is_made_split j.accepted node)) judged is) in
    let own : IsMaskOfNodes setup.job.nodes mask =
    subst (λ (j : Job). IsMaskOfNodes j.nodes mask) (sym job) c.in_ok-job.ensures.splits in
    let splits : IsMaskOfNodes setup.job.nodes setup.splits =
    mask_of_some setup.job.nodes mask setup.splits setup.judged.accepted own within
    c.in_ok-setup.ensures.exact.splits in
    let same : mask ≡ setup.splits = one_mask setup.job.nodes mask setup.splits own splits in
    let told : setup.judged ≡ judged_within (Some setup.splits) view requests =
    judged ∙ ap (λ (m : ℕ). judged_within (Some m) view requests) same in
    record {
      made = record {
        job_is = ap (λ (j : Job). job_view j) job;
        accepted = ap (λ (j : Judged). j.accepted) told;
        refused = ap (λ (j : Judged). j.refused) told;
        exact = c.in_ok-setup.ensures.exact;
        least = c.plans_are_least.ensures;
        numbers = c.plans_number_all_nodes.ensures;
        mode = c.in_ok-setup.ensures.ordered;
      };
      splits = subst (λ (j : Job). IsMaskOfNodes j.nodes setup.splits) job splits;
    }
