use Rattle.std.proofs.Common.{◌<◌, ◌^◌, ◌↔◌, ℕ, inl, inr, bit_or, length}
use Rattle.std.specs.Prelude.{IsTrue}
use Rattle.std.proofs.lemmas.Bool.{eq-eqb, eqb-true}
use Rattle.std.proofs.lemmas.Nat.{or_lt}
use Rattle.flow_dag.specs.Masks.{Has, has}
use Rattle.flow_dag.proofs.MaskLemmas.{Has-or, Has-or_cases}
use Rattle.jobs.specs.Job.{job_view}
use Rattle.flow_model.specs.Planned.{splits_at}
use Rattle.flow_model.proofs.GatheredLemmas.{either_has}
use Rattle.flow_model.proofs.PlanLemmas.{IsPlanned-exact, no_source_splits}
use Rattle.flow_model.proofs.setup.Setup.planned.Goals as goal

pub splits-requires-clause-inside : goal.splits-requires-clause-inside
splits-requires-clause-inside c =
    rw (c.as_slice-2.ensures, c.as_slice.ensures) (c.accepted_requests_name_nodes.ensures (job_view c.args.job) c.args.judged.accepted c.requires.accepted)

pub plans_of-requires-clause-splits : goal.plans_of-requires-clause-splits
plans_of-requires-clause-splits c =
    let below : c.splits.result < 2 ^ length c.args.job.nodes = rw c.as_slice.ensures at c.splits.ensures.below in
    or_lt (length c.args.job.nodes) c.splits.result c.args.spare below c.requires.inside

pub plans_of-requires-clause-inside : goal.plans_of-requires-clause-inside
plans_of-requires-clause-inside c = rw c.as_slice-3.ensures (c.accepted_requests_name_nodes.ensures (job_view c.args.job) c.args.judged.accepted c.requires.accepted)

pub invariant_of-result : goal.invariant_of-result
invariant_of-result c =
    let job = job_view c.args.job in
    let requests = c.args.judged.accepted in
    let own = c.splits.result in
    let spare = c.args.spare in
    let has_own : (node : ℕ) → Has own node ↔ IsTrue (splits_at c.args.job.nodes requests node) = rw (c.as_slice.ensures, c.as_slice-2.ensures) at c.splits.ensures.has in
    let below : own < 2 ^ length c.args.job.nodes = rw c.as_slice.ensures at c.splits.ensures.below in
    let kept = c.accepted_requests_keep_kinds.ensures job requests c.requires.accepted in
    record {
      topology_is = c.in_ok-topology.ensures;
      accepted = c.requires.accepted;
      planned = ∣ IsPlanned-exact job requests c.in_ok-plans.plans (bit_or own spare) c.args.ordered
          (λ node h. Has-or own spare node (inl ((has_own node).1 h)))
          (λ node source h. elim (Has-or_cases own spare node h) [ inl u ↦ no_source_splits job requests kept node ((has_own node).0 u) source | inr v ↦ c.requires.sources node source v ])
          (or_lt (length c.args.job.nodes) own spare below c.requires.inside)
          kept (rw c.as_slice-3.ensures at c.in_ok-plans.ensures) ∣₁;
    }

pub returns-clause-exact : goal.returns-clause-exact
returns-clause-exact c =
    let requests = c.args.judged.accepted in
    let has_own : (node : ℕ) → Has c.splits.result node ↔ IsTrue (splits_at c.args.job.nodes requests node) = rw (c.as_slice.ensures, c.as_slice-2.ensures) at c.splits.ensures.has in
    record {
      splits = λ node. either_has c.splits.result c.args.spare node (splits_at c.args.job.nodes requests node) (has c.args.spare node) (has_own node) (λ h. eq-eqb _ _ h, λ h. eqb-true _ _ h);
      plans = rw c.as_slice-3.ensures at c.in_ok-plans.ensures;
    }
