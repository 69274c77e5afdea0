use Rattle.std.proofs.Common.{◌≡◌, ◌+◌, ◌++◌, ◌<◌, ◌^◌, List, None, length}
use Rattle.jobs.specs.Job.{job_view}
use Rattle.jobs.specs.Nodes.{AreFromSources, IsSourceOf}
use Rattle.tuple_trace.specs.FeedRows.{AreRowsAfter}
use Rattle.tuple_trace.specs.declared.row.Row.{Row}
use Rattle.stream_run.specs.Growing.{Goes, IsBooked}
use Rattle.stream_run.specs.Parts.{KeepsAsked}
use Rattle.stream_parts.specs.InTime.{IssuesFirst}
use Rattle.stream_parts.proofs.TimeLemmas.{IsInStep}
use Rattle.stream_parts.proofs.rows.run_all.Given as goal

abbrev pub invariant-loop-left : goal.invariant-loop-left
invariant-loop-left g l = record {
  done : List Row;
  rows : l.rows ≡ done ++ l.left;
  goes : (goes : Goes l.call.names done l.fn.stream (g.S.Shelf.state l.fn.shelf).files l.stream
      (g.S.Shelf.state l.shelf).files) × IsBooked goes.written l.fn.books l.books;
  row : l.stream.start.row ≡ l.fn.stream.start.row + length done;
  kept : KeepsAsked l.fn.stream l.stream;
  issued : IssuesFirst l.fn.stream l.stream.start.row l.stream;
  step : IsInStep l.fn.stream l.stream;
  numbered : AreRowsAfter l.stream.start.row l.left;
  sources : AreFromSources (job_view l.stream.setup.job) l.left;
  source : IsSourceOf (job_view l.stream.setup.job) l.call.source;
  closed : (g.S.Shelf.state l.shelf).draft ≡ None;
  read : l.books.read ≡ l.fn.books.read;
  faults : (g.S.Shelf.state l.shelf).faults ≡ (g.S.Shelf.state l.fn.shelf).faults;
}

abbrev pub decreases-loop-left : goal.decreases-loop-left
decreases-loop-left g l = length l.left
