use Rattle.flow_crew.proofs.Matching.{matched_again}
use Rattle.flow_crew.proofs.laws.endpoints_stay_matched.Goals as goal

pub returns : goal.returns
returns c = matched_again
