use Rattle.std.proofs.Common.{◌∙◌, ℕ, ◌<◌, ◌++◌, [], ◌∷◌, ap, sym, length, map, take, append_assoc, arith, get_or}
use Rattle.std.proofs.lemmas.List.{map_more}
use Rattle.tuple_trace.specs.declared.tuple.Tuple.{Tuple}
use Rattle.operators.specs.declared.output.Output.{Output}
use Rattle.operators.specs.Meaning.{born, sent}
use Rattle.operators.proofs.replicate.send_copies.Goals as goal

pub loop-port-preserved : goal.loop-port-preserved
loop-port-preserved c =
    let tuple = c.args.tuple.now in
    let visit = c.args.visit in
    let ports = c.args.ports.now in
    let at = c.loop-port.port-index in
    let port = get_or ports at 0 in
    let copy : ℕ → Output = λ port. sent visit port (born port tuple) in
    let by_port : Tuple → Output = λ t. record { port = port; tuple = t } in
    let inside : at < length ports = omega arith in
    c.in_ok-push.ensures.ok
    ∙ ap (λ t. c.loop-port.out ++ by_port t ∷ []) c.in_ok-tuple.ensures
    ∙ ap (λ o. o ++ copy port ∷ []) c.loop-port.invariant
    ∙ append_assoc c.args.out.now (map copy (take at ports)) (copy port ∷ [])
    ∙ ap (λ o. c.args.out.now ++ o) (sym (map_more copy ports at 0 inside))
