-- What a run keeps, over rows that a contract names and no code holds.
use Rattle.std.proofs.Common.{List, subst, sym}
use Rattle.jobs.specs.Nodes.{AreFromSources}
use Rattle.tuple_trace.specs.Rows.{AreRows}
use Rattle.tuple_trace.specs.declared.row.Row.{Row}
use Rattle.flow_model.specs.Consistent.{IsConsistent}
use Rattle.flow_model.specs.Run.{IsRun, Ran}
use Rattle.flow_model.specs.Setup.{setup_view}
use Rattle.flow_model.specs.SetupView.{SetupView}
use Rattle.flow_model.specs.declared.setup.Setup.{Setup}
use Rattle.flow_model.proofs.FreshLemmas.{is_fresh, is_fresh_before}
use Rattle.flow_model.proofs.OnceLemmas.{met_once}
use Rattle.flow_model.proofs.OneTableLemmas.{one_table}
use Rattle.flow_model.proofs.RunLemmas.{Running}
use Rattle.flow_model.proofs.SetupLemmas.{running}
use Rattle.flow_model.proofs.WholeLemmas.{whole}

pub run_consistent : (setup : Setup) (rows : List Row) (ran : Ran) → AreRows rows → AreFromSources (setup_view setup).job rows → IsRun (setup_view setup) rows ran → IsConsistent rows ran
run_consistent setup rows ran are sources is =
    let all : Running rows ran = running setup rows ran are is in
    record {
      whole = whole rows ran all;
      once = met_once rows ran all;
      fresh = is_fresh rows ran all;
      fresh_before = is_fresh_before rows ran all;
      one_table = λ none. one_table rows ran all none (subst (λ (s : SetupView). AreFromSources s.job rows) (sym is.setup_is) sources);
    }
