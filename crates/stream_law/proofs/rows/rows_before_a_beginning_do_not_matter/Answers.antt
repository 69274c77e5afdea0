use Rattle.stream_law.proofs.BeforeLemmas.{run_of_others}
use Rattle.stream_law.proofs.rows.rows_before_a_beginning_do_not_matter.Goals as goal

pub returns : goal.returns
returns c begin setup rows others ran same behind is = record {
  setup_is = is.setup_is;
  run = run_of_others begin rows others ran same behind is.run;
}
