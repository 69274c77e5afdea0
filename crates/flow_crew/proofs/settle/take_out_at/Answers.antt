use Rattle.std.proofs.Common.{◌∙◌, [], ◌∷◌, ap}
use Rattle.std.proofs.lemmas.Option.{slice_get-get_or}
use Rattle.flow_crew.specs.Sides.{side_outs}
use Rattle.flow_crew.specs.Sorted.{more_out}
use Rattle.flow_crew.proofs.Settling.{if_none, if_some}
use Rattle.flow_crew.proofs.Sorting.{changed-set}
use Rattle.flow_crew.proofs.settle.take_out_at.Goals as goal

pub returns-clause-some : goal.returns-clause-some
returns-clause-some g c =
    if_some _ _ c.pop_out.result (λ x e.
    changed-set (more_out (g.L.Tx.Tx.state x ∷ []))
    c.args.sides.now c.args.worker _ c.pop_out.new.self (slice_get-get_or c.args.sides.now c.args.worker c.index-sides-worker.result c.requires) e) c.pop_out.ensures.some

pub returns-clause-none : goal.returns-clause-none
returns-clause-none g c =
    if_none c.pop_out.result (λ e. ap side_outs (slice_get-get_or c.args.sides.now c.args.worker c.index-sides-worker.result c.requires) ∙ e) c.pop_out.ensures.none
