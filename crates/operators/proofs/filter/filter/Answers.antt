use Rattle.std.proofs.Common.{rules, ◌≡◌, ◌∙◌, ◌++◌, ◌∷◌, [], ◌==◌, false, true, ap, sym, append-nil}
use Rattle.std.proofs.lemmas.Result.{on_ok_weaker}
use Rattle.std.specs.List.{list_all, list_any}
use Rattle.tuple_trace.specs.declared.tuple.Tuple.{Tuple}
use Rattle.operators.specs.declared.output.Output.{Output}
use Rattle.operators.specs.Conditions.{meets}
use Rattle.operators.proofs.PortLemmas.{filtered-none, filtered-out}
use Rattle.operators.proofs.filter.filter.Goals as goal

pub returns-then-has_port-clause-ok : goal.returns-then-has_port-clause-ok
returns-then-has_port-clause-ok c =
    let job = c.args.job.now in
    let out = c.args.out.now in
    let missed : list_all (meets job.columns c.args.tuple.now.fields) c.args.conds.now ≡ false = search rules in
    let there : list_any (λ p. p == 1) c.args.ports.now ≡ true = search rules in
    let by_port : Tuple → Output = λ t. record { port = 1; tuple = t } in
    let sent = filtered-out job.columns job.dag.edges c.args.visit c.args.conds.now c.args.tuple.now c.args.ports.now c.requires missed there in
    on_ok_weaker c.push-then-has_port.result (λ put. put ∙ ap (λ t. out ++ by_port t ∷ []) c.in_ok-tuple-2.ensures ∙ ap (λ o. out ++ o) sent) c.push-then-has_port.ensures.ok

pub returns-clause-ok : goal.returns-clause-ok
returns-clause-ok c =
    let job = c.args.job.now in
    let out = c.args.out.now in
    let missed : list_all (meets job.columns c.args.tuple.now.fields) c.args.conds.now ≡ false = search rules in
    let lacks : list_any (λ p. p == 1) c.args.ports.now ≡ false = search rules in
    sym (append-nil out) ∙ ap (λ o. out ++ o) (filtered-none job.columns job.dag.edges c.args.visit c.args.conds.now c.args.tuple.now c.args.ports.now c.requires missed lacks)
