use Rattle.std.proofs.Common.{[], ◌∷◌}
use Rattle.std.proofs.lemmas.Option.{slice_get-get_or}
use Rattle.flow_crew.specs.Sorted.{more_out}
use Rattle.flow_crew.proofs.Sorting.{set-changed}
use Rattle.flow_crew.proofs.Making.{on_ok}
use Rattle.flow_crew.proofs.all_endpoints.add_out_at.Goals as goal

pub returns : goal.returns
returns g c =
    on_ok c.push_out.result (λ e.
    set-changed (more_out (g.L.Tx.Tx.state c.args.tx ∷ []))
    c.args.workers.now c.args.worker _ c.push_out.new.self (slice_get-get_or c.args.workers.now c.args.worker c.index-workers-worker.result c.requires) e) c.push_out.ensures.ok
