use Rattle.std.proofs.Common.{◌≡◌, ◌++◌, List, length}
use Rattle.tuple_trace.specs.declared.row.Row.{Row}
use Rattle.flow_model.specs.Requests.{afters}
use Rattle.flow_model.specs.Setup.{setup_view}
use Rattle.flow_replay.specs.inner.SoFar.{AreSorted, IsSoFar, issues}
use Rattle.flow_replay.proofs.IssueLemmas.{AreDueUpTo}
use Rattle.flow_replay.proofs.executor.Executor.issue_up_to.Given as goal

abbrev pub invariant-loop-place : goal.invariant-loop-place
invariant-loop-place l = record {
  same : l.self.setup.now ≡ l.fn.self.setup.now;
  at : l.self.issued ≡ l.place;
  long : length l.self.runs.items ≡ length l.fn.self.runs.items;
  due : AreDueUpTo (afters (setup_view l.fn.self.setup.now).requests) l.rows l.row l.place;
  feeds :
      l.self.feeds ++ issues (setup_view l.fn.self.setup.now) l.rows l.row l.place
      ≡ l.fn.self.feeds ++ issues (setup_view l.fn.self.setup.now) l.rows l.row l.fn.self.issued;
  far :
      (fed : List Row) →
      IsSoFar (setup_view l.fn.self.setup.now) fed l.fn.self.feeds l.fn.self.issued
      l.fn.self.runs.items →
      IsSoFar (setup_view l.fn.self.setup.now) fed l.self.feeds l.place l.self.runs.items;
  sorted :
      AreSorted (setup_view l.fn.self.setup.now) l.rows l.row l.fn.self.issued l.fn.self.runs.items →
      AreSorted (setup_view l.fn.self.setup.now) l.rows l.row l.place l.self.runs.items;
}
