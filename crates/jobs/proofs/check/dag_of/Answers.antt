use Rattle.std.proofs.Common.{refl}
use Rattle.jobs.specs.JobView.{job_view_as}
use Rattle.jobs.proofs.ShapeLemmas.{HasShape-distinct, HasShape-inside}
use Rattle.jobs.proofs.check.dag_of.Goals as goal

pub unreachable-requires : goal.unreachable-requires
unreachable-requires c =
    let job = job_view_as c.args.columns.now c.args.nodes.now c.args.edges.now c.args.tables.now in
    HasShape-inside job _ _ _ c.in-Err-NodeRange.field-0-is refl c.in_ok-check_shape.ensures.shape c.in-Err-NodeRange.ensures.fault

pub unreachable-requires-in-Err-Repeated : goal.unreachable-requires-in-Err-Repeated
unreachable-requires-in-Err-Repeated c =
    let job = job_view_as c.args.columns.now c.args.nodes.now c.args.edges.now c.args.tables.now in
    HasShape-distinct job _ _ _ c.in-Err-Repeated.field-0-is c.in_ok-check_shape.ensures.shape c.in-Err-Repeated.ensures.fault
