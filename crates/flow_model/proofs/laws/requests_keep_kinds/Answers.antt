use Rattle.std.proofs.Common.{inr, refl}
use Rattle.std.proofs.Math.Bool.{Bool-set}
use Rattle.std.proofs.Math.Logic.{∥∥₁_elim}
use Rattle.flow_dag.proofs.MaskLemmas.{has-Has}
use Rattle.jobs.specs.Job.{job_view}
use Rattle.versions.proofs.AcceptedLemmas.{accepted-inside}
use Rattle.versions.proofs.KeptLemmas.{accepted-kept}
use Rattle.flow_model.specs.Setup.{setup_view}
use Rattle.flow_model.proofs.KindLemmas.{changed_alike, changed_node, changed_roof, copies_given, splits_given}
use Rattle.flow_model.proofs.laws.requests_keep_kinds.Goals as goal

pub returns-clause-splits : goal.returns-clause-splits
returns-clause-splits c request node change h splits =
    let s = c.args.setup.now in
    let (def, there) = changed_node (setup_view s) request node change (accepted-inside (job_view s.job) s.judged.accepted s.accepted) h in
    let may = splits_given (setup_view s) node def change.func there (inr (request, change, h, refl)) splits in
    ∥∥₁_elim s.planned (Bool-set _ _) (λ is. (has-Has (setup_view s).splits node).1 (is.splits node may))

pub returns-clause-copies : goal.returns-clause-copies
returns-clause-copies c request node change h copies =
    let s = c.args.setup.now in
    let (def, there) = changed_node (setup_view s) request node change (accepted-inside (job_view s.job) s.judged.accepted s.accepted) h in
    let alike = changed_alike (setup_view s) request node def change (accepted-kept (job_view s.job) s.judged.accepted s.accepted) there h in
    copies_given (setup_view s) node def change.func there alike copies

pub returns-clause-ports : goal.returns-clause-ports
returns-clause-ports c request node change h =
    let s = c.args.setup.now in
    let (def, there) = changed_node (setup_view s) request node change (accepted-inside (job_view s.job) s.judged.accepted s.accepted) h in
    let alike = changed_alike (setup_view s) request node def change (accepted-kept (job_view s.job) s.judged.accepted s.accepted) there h in
    alike.ports (s.job.lawful.ports node def there)

pub returns-clause-roof : goal.returns-clause-roof
returns-clause-roof c request node change def h there =
    let s = c.args.setup.now in
    changed_roof (setup_view s) request node def change (accepted-kept (job_view s.job) s.judged.accepted s.accepted) there h
