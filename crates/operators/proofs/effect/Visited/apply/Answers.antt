use Rattle.std.proofs.Common.{◌∙◌, ℕ, ◌++◌, ap, map}
use Rattle.std.proofs.lemmas.Result.{on_ok_weaker}
use Rattle.operators.specs.declared.output.Output.{Output}
use Rattle.operators.specs.Meaning.{born, sent}
use Rattle.operators.proofs.PortLemmas.{copies-by_ports}
use Rattle.operators.proofs.effect.Visited.apply.Goals as goal

pub returns-in-Replicate-clause-outputs : goal.returns-in-Replicate-clause-outputs
returns-in-Replicate-clause-outputs c =
    let tuple = c.args.tuple.now in
    let visit = c.args.self.visit in
    let out = c.args.out.now in
    let copy : ℕ → Output = λ port. sent visit port (born port tuple) in
    let all = ap (λ ports. map copy ports) c.requires ∙ copies-by_ports c.args.self.job.now.dag.edges visit tuple in
    rw c.in-Replicate.is (on_ok_weaker c.replicate.result (λ put. put ∙ ap (λ o. out ++ o) all) c.replicate.ensures.ok)
