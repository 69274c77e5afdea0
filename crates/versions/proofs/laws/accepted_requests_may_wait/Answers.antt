use Rattle.versions.specs.Book.{first_book}
use Rattle.versions.proofs.WaitingLemmas.{accepted_like}
use Rattle.versions.proofs.laws.accepted_requests_may_wait.Goals as goal

pub returns : goal.returns
returns c = λ job requests others e same o. accepted_like job (first_book job.nodes) 0 0 1 requests others same e o
