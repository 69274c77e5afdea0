use Rattle.versions.proofs.KeptLemmas.{accepted-kept}
use Rattle.versions.proofs.laws.accepted_requests_keep_kinds.Goals as goal

pub returns : goal.returns
returns c = accepted-kept
