use Rattle.versions.proofs.AcceptedLemmas.{accepted-inside}
use Rattle.versions.proofs.laws.accepted_requests_name_nodes.Goals as goal

pub returns : goal.returns
returns c = accepted-inside
