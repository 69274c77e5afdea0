-- Jobs and how they are written.
use Rattle.jobs.specs.declared.job.Job.{Job}
use Rattle.jobs.specs.JobView.{JobView, job_view_as}

-- a job as it is written
abbrev pub job_view : Job → JobView
job_view job = job_view_as job.columns job.nodes job.dag.edges job.tables
