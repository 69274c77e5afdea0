use Rattle.versions.proofs.CarryLemmas.{accepted-carry}
use Rattle.versions.proofs.laws.accepted_requests_carry_well.Goals as goal

pub returns : goal.returns
returns c = accepted-carry
