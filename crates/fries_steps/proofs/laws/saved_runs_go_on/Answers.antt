use Rattle.fries_steps.proofs.OneRunLemmas.{are_one_run, saved_reads}
use Rattle.fries_steps.proofs.laws.saved_runs_go_on.Goals as goal

pub returns-clause-reads : goal.returns-clause-reads
returns-clause-reads c row job requests first part made = saved_reads c.args.setup.now c.args.rows.now row job requests first part made

pub returns-clause-one_run : goal.returns-clause-one_run
returns-clause-one_run c row job requests start first second sources part on =
    let are = c.are_numbered.ensures in
    are_one_run c.args.setup.now c.args.rows.now are (λ ran. c.runs_are_consistent.ensures c.args.rows.now ran are) row job requests start first second sources part on
