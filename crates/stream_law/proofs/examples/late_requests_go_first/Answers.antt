use Rattle.std.proofs.Common.{refl}
use Rattle.std.specs.Fmt.{digits}
use Rattle.stream_law.proofs.LateLemmas.{early-run, late-joined, late-next}
use Rattle.stream_law.proofs.examples.late_requests_go_first.Goals as goal

pub returns-clause-early : goal.returns-clause-early
returns-clause-early c = early-run

pub returns-clause-late : goal.returns-clause-late
returns-clause-late c setup same = late-next setup same

pub returns-clause-joined : goal.returns-clause-joined
returns-clause-joined c = late-joined

pub returns-clause-alerts : goal.returns-clause-alerts
unfolding digits
returns-clause-alerts c = refl
