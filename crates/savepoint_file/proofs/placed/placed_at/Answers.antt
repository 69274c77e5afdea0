use Rattle.std.proofs.Common.{sym}
use Rattle.std.proofs.Math.Facts.{to_z-of_z}
use Rattle.jobs.specs.Job.{job_view}
use Rattle.savepoint_file.proofs.NamedLemmas.{none_placed}
use Rattle.savepoint_file.proofs.placed.placed_at.Goals as goal

pub returns-in-None : goal.returns-in-None
returns-in-None c =
    sym (none_placed (job_view c.args.setup.now.job) c.args.name.now c.args.key.now c.args.place c.args.count c.if-key-gt-TEXT_MAX.false (sym (simp (to_z-of_z c.ranges.place) at c.in-None.ensures)))
