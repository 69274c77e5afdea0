use Rattle.std.proofs.Common.{sym}
use Rattle.jobs.specs.Job.{job_view}
use Rattle.savepoint_file.proofs.NodeLemmas.{counts_by_node}
use Rattle.savepoint_file.proofs.save_sheet.SaveSheet.write_counts.Goals as goal

pub returns : goal.returns
returns c = rw (sym (counts_by_node (job_view c.args.job.now) c.args.states.now)) (rw c.as_slice.ensures at c.write_nodes.ensures)
