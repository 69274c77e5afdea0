-- Setups whose requests wait for other rows have the planner's plans too.
use Rattle.std.proofs.Common.{◌∙◌, ◌||◌, ℕ, List, subst, sym, slice_get}
use Rattle.std.specs.Prelude.{◌↔◌, IsTrue}
use Rattle.flow_dag.specs.Masks.{Has}
use Rattle.flow_model.specs.Planned.{ArePlansOf, IsExactForStream}
use Rattle.flow_model.specs.Planned.{may_become_split}
use Rattle.flow_model.specs.SetupView.{SetupView}
use Rattle.flow_model.specs.Waiting.{waiting_for, with_afters}
use Rattle.flow_model.proofs.WaitingLemmas.{length_waiting}
use Rattle.fries_steps.proofs.LiveLemmas.{planned_waiting, splits_waiting}

plans_waiting : (v : SetupView) (waits : List ℕ)
    → ArePlansOf v.job v.splits v.ordered v.requests v.plans
    → ArePlansOf v.job v.splits v.ordered (with_afters waits v.requests) v.plans
plans_waiting v waits is = record {
  one_each = is.one_each ∙ sym (length_waiting waits v.requests);
  each = λ r plan from g. record {
    by = (is.each r plan from g).by;
    asked = λ node. subst (λ b. Has plan.asked node ↔ IsTrue b)
        (sym (planned_waiting v.ordered waits v.requests r node))
        ((is.each r plan from g).asked node);
  };
}

pub stream_exact_waiting : (v : SetupView) (waits : List ℕ) → IsExactForStream v
    → IsExactForStream (waiting_for waits v)
stream_exact_waiting v waits is = record {
  splits = λ node.
      subst (λ b. Has v.splits node ↔ IsTrue (b || may_become_split (slice_get v.job.nodes node)))
      (sym (splits_waiting v waits node)) (is.splits node);
  plans = plans_waiting v waits is.plans;
}
