use Rattle.jobs.specs.Job.{job_view}
use Rattle.stream_intake.specs.Intake.{judged_in}
use Rattle.stream_intake.proofs.IntakeLemmas.{issued_back, pending_back}
use Rattle.stream_intake.proofs.MaskLemmas.{one_mask}
use Rattle.stream_intake.proofs.laws.saved_streams_go_on.Goals as goal

pub returns-clause-issued : goal.returns-clause-issued
returns-clause-issued c stream known is =
    issued_back (job_view stream.setup.job) stream.setup.judged.accepted stream.pending
    (judged_in stream known).accepted is

pub returns-clause-pending : goal.returns-clause-pending
returns-clause-pending c stream known is =
    pending_back (job_view stream.setup.job) stream.setup.judged.accepted stream.pending
    (judged_in stream known).accepted is

pub returns-clause-one_mask : goal.returns-clause-one_mask
returns-clause-one_mask c nodes first second f g = one_mask nodes first second f g
