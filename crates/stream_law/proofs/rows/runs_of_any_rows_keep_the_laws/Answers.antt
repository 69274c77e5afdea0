use Rattle.savepoint.proofs.ConsistentLemmas.{run_consistent}
use Rattle.stream_law.proofs.WholeLemmas.{run_prefix, run_serial}
use Rattle.stream_law.proofs.rows.runs_of_any_rows_keep_the_laws.Goals as goal

pub returns-clause-consistent : goal.returns-clause-consistent
returns-clause-consistent c setup rows ran are sources is =
    run_consistent setup rows ran are sources is

pub returns-clause-prefix : goal.returns-clause-prefix
returns-clause-prefix c setup rows ran are ordered is row =
    run_prefix setup rows ran are ordered is row

pub returns-clause-landings : goal.returns-clause-landings
returns-clause-landings c setup rows ran are ordered none sources is =
    run_serial setup rows ran are ordered none sources is
