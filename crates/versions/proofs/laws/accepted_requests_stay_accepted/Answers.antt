use Rattle.versions.proofs.AcceptedLemmas.{accepted-alone}
use Rattle.versions.proofs.laws.accepted_requests_stay_accepted.Goals as goal

pub returns : goal.returns
returns c = accepted-alone
