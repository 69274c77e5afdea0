use Rattle.std.proofs.Common.{rules}
use Rattle.jobs.proofs.LimitLemmas.{IfNone-limits}
use Rattle.jobs.specs.JobView.{job_view_as}
use Rattle.jobs.proofs.limits.first_size_fault.Goals as goal

pub returns-clause-limits : goal.returns-clause-limits
returns-clause-limits c = IfNone-limits (job_view_as c.args.columns.now c.args.nodes.now c.args.edges.now c.args.tables.now) _ (search rules)
