use Rattle.stream_run.proofs.GoesLemmas.{goes_booked-same}
use Rattle.stream_parts.proofs.save.save_if_due.Goals as goal

pub returns-in_default-clause-goes : goal.returns-in_default-clause-goes
returns-in_default-clause-goes g c =
    goes_booked-same c.args.call.now.names c.args.stream _ c.args.books.now
