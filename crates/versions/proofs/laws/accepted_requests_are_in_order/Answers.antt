use Rattle.versions.proofs.KeptLemmas.{accepted-order}
use Rattle.versions.proofs.laws.accepted_requests_are_in_order.Goals as goal

pub returns : goal.returns
returns c = accepted-order
