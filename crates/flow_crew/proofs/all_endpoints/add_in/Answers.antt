use Rattle.std.proofs.Common.{[], ◌∷◌}
use Rattle.std.proofs.lemmas.Option.{slice_get-get_or}
use Rattle.flow_crew.specs.Sorted.{more_in}
use Rattle.flow_crew.proofs.Sorting.{set-changed}
use Rattle.flow_crew.proofs.Making.{on_ok}
use Rattle.flow_crew.proofs.all_endpoints.add_in.Goals as goal

pub returns : goal.returns
returns g c =
    on_ok c.push_in.result (λ e.
    set-changed (more_in (g.L.Rx.Rx.state c.args.rx ∷ []))
    c.args.workers.now c.args.worker _ c.push_in.new.self (slice_get-get_or c.args.workers.now c.args.worker c.index-workers-worker.result c.requires) e) c.push_in.ensures.ok
