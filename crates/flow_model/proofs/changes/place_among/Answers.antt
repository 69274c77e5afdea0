use Rattle.std.proofs.Common.{◌≡◌, ◌∙◌, ◌==◌, true, get_or, sym, ap}
use Rattle.std.proofs.lemmas.Bool.{eq-eqb}
use Rattle.std.proofs.lemmas.Option.{slice_get-get_or}
use Rattle.versions.specs.declared.request.Change.{Change}
use Rattle.flow_model.proofs.ChangeLemmas.{change_here}
use Rattle.flow_model.proofs.changes.place_among.Goals as goal

pub returns-then-change-node-clause-some : goal.returns-then-change-node-clause-some
returns-then-change-node-clause-some c =
    let d = c.index-changes-place.result in
    let x : Change = get_or c.args.changes.now c.loop-place.place d in
    let at : (x.node == c.args.node) ≡ true = eq-eqb x.node c.args.node (sym (ap (λ (y : Change). y.node) c.index-changes-place.is) ∙ c.if-change-node.true) in (
      x,
      slice_get-get_or c.args.changes.now c.loop-place.place d c.loop-place-test.true,
      sym c.loop-place.invariant ∙ change_here c.args.changes.now c.args.node c.loop-place.place d c.loop-place-test.true at,
    )
