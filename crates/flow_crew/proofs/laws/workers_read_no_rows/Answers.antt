use Rattle.flow_crew.proofs.Recording.{crew_kept}
use Rattle.flow_crew.proofs.laws.workers_read_no_rows.Goals as goal

pub returns : goal.returns
returns c = λ setup begin requests workers same crew. crew_kept setup requests same begin workers crew
