use Rattle.jobs.proofs.UnlawfulLemmas.{IsRefused-unlawful}
use Rattle.jobs.proofs.laws.refused_is_unlawful.Goals as goal

pub returns : goal.returns
returns c = IsRefused-unlawful
