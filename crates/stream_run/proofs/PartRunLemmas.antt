-- What an engine leaves of a part.
use Rattle.std.proofs.Common.{◌≡◌, ◌+◌, ◌++◌, ℕ, List, arith, map, subst}
use Rattle.std.proofs.Common.{sym}
use Rattle.std.proofs.lemmas.List.{length-append}
use Rattle.std.proofs.lemmas.List.FromFn.{length-map-range_with_len}
use Rattle.jobs.specs.Job.{job_view}
use Rattle.jobs.specs.Nodes.{AreFromSources}
use Rattle.tuple_trace.specs.FeedRows.{blank, blanks}
use Rattle.tuple_trace.specs.Rows.{AreRows}
use Rattle.tuple_trace.specs.declared.row.Row.{Row}
use Rattle.versions.specs.declared.request.Request.{Request}
use Rattle.flow_model.specs.Planned.{IsFollowed}
use Rattle.flow_model.specs.Record.{record_view}
use Rattle.flow_model.specs.Run.{IsRunSince}
use Rattle.flow_model.specs.Setup.{setup_view}
use Rattle.flow_model.specs.declared.record.RunRecord.{RunRecord}
use Rattle.flow_model.specs.declared.setup.Setup.{Setup}
use Rattle.stream_step.specs.Parts.{IsRunOn}
use Rattle.stream_step.specs.Pending.{lifted}
use Rattle.stream_step.specs.declared.stream.Stream.{Stream}
use Rattle.stream_step.proofs.PendingLemmas.{lifted_wait}

pub run_on : (stream : Stream) (requests : List Request) (source : ℕ) (rows : List Row)
    (setup : Setup) (ran : RunRecord) → AreRows (blanks source stream.start.row ++ rows)
    → AreFromSources (job_view stream.setup.job) (blanks source stream.start.row ++ rows)
    → IsFollowed (setup_view stream.setup) (map (lifted stream.start.row) requests)
    (setup_view setup)
    → ran.setup ≡ setup → IsRunSince stream.start (setup_view setup)
    (blanks source stream.start.row ++ rows) (record_view ran)
    → IsRunOn stream (map (lifted stream.start.row) requests)
    (blanks source stream.start.row ++ rows) ran.setup (record_view ran)
run_on stream requests source rows setup ran numbered sources followed same run =
    let all = blanks source stream.start.row ++ rows in
    record {
      within = omega (
        arith,
        length-append (blanks source stream.start.row) rows,
        length-map-range_with_len (blank source) 0 stream.start.row,
      );
      numbered = numbered;
      sources = sources;
      wait = lifted_wait stream.start.row requests;
      followed =
          subst (λ (s : Setup). IsFollowed (setup_view stream.setup)
          (map (lifted stream.start.row) requests) (setup_view s)) (sym same) followed;
      run = subst (λ (s : Setup). IsRunSince stream.start (setup_view s) all (record_view ran))
          (sym same) run;
    }
