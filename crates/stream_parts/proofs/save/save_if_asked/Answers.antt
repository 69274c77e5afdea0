use Rattle.stream_run.proofs.GoesLemmas.{goes_booked-same}
use Rattle.stream_parts.proofs.save.save_if_asked.Goals as goal

pub returns-in-None-clause-goes : goal.returns-in-None-clause-goes
returns-in-None-clause-goes g c =
    goes_booked-same c.args.call.now.names c.args.stream _ c.args.books.now
