use Rattle.std.proofs.Common.{◌∙◌, [], ◌∷◌, ap}
use Rattle.std.proofs.lemmas.Option.{slice_get-get_or}
use Rattle.flow_crew.specs.Sides.{side_ins}
use Rattle.flow_crew.specs.Sorted.{more_in}
use Rattle.flow_crew.proofs.Settling.{if_none, if_some}
use Rattle.flow_crew.proofs.Sorting.{changed-set}
use Rattle.flow_crew.proofs.settle.take_in.Goals as goal

pub returns-clause-some : goal.returns-clause-some
returns-clause-some g c =
    if_some _ _ c.pop_in.result (λ x e.
    changed-set (more_in (g.L.Rx.Rx.state x ∷ []))
    c.args.sides.now c.args.worker _ c.pop_in.new.self (slice_get-get_or c.args.sides.now c.args.worker c.index-sides-worker.result c.requires) e) c.pop_in.ensures.some

pub returns-clause-none : goal.returns-clause-none
returns-clause-none g c =
    if_none c.pop_in.result (λ e. ap side_ins (slice_get-get_or c.args.sides.now c.args.worker c.index-sides-worker.result c.requires) ∙ e) c.pop_in.ensures.none
