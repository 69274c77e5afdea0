use Rattle.std.proofs.Common.{◌≡◌, ◌∙◌, ◌∷◌, ◌++◌, ℕ, List, [], Some, ap, length, map, refl, subst}
use Rattle.std.proofs.Common.{sym}
use Rattle.audit_laws.specs.Fits.{csv_records}
use Rattle.audit_parts.specs.Cut.{parts_of}
use Rattle.coordinator.specs.Feeding.{issue_rows}
use Rattle.flow_model.specs.Run.{IsRun}
use Rattle.flow_model.specs.Setup.{setup_view}
use Rattle.flow_model.specs.Waiting.{waiting_for}
use Rattle.jobs.specs.Job.{job_view}
use Rattle.jobs.specs.JobView.{JobView}
use Rattle.audit_live.specs.Shown.{shown_waits}
use Rattle.audit_live.proofs.LiveLemmas.{live_shows}
use Rattle.fries_lines.specs.Lines.{noted}
use Rattle.sink_journal.specs.Audit.{audit, audit_header, audit_records}
use Rattle.audit_stream.specs.Together.{together}
use Rattle.audit_stream.specs.Told.{PartTold, part_records}
use Rattle.stream_replay.specs.InParts.{Given, Records, first_start}
use Rattle.stream_replay.specs.Runs.{records_in_turn, start_past_all}
use Rattle.fries_verify.specs.Audits.{given_in, stream_subject}
use Rattle.fries_verify.specs.Streams.{given_live, told_in_turn, told_last}
use Rattle.fries_verify.proofs.PartLemmas.{run_parts}
use Rattle.fries_verify.proofs.TurnLemmas.{earlier_each, is_last, last_told, parts_found}
use Rattle.fries_verify.proofs.laws.streams_are_shown.Goals as goal

pub returns : goal.returns
returns c ends left ran bytes live stream told_is =
    let s = c.args.setup.now in
    let rows = c.args.rows.now in
    let job = job_view s.job in
    let refused = map noted s.judged.refused in
    let given : Given = given_live s rows ran in
    let start = first_start given in
    let behind = start_past_all start ends in
    let end : Records = part_records job (told_last given behind left) in
    let job_is : ran.setup.job ≡ job = ap (λ v. v.job) live.run.setup_is in
    let fits : together job (csv_records bytes) ≡ audit_header
    ∷ audit_records ran.setup.job refused ran.feeds ran.journals ran.states =
    ap (together job) told_is
    ∙ (c.parts_are_put_together.ensures (told_in_turn given start ends)
    (told_last given behind left) (earlier_each job given refl start ends stream.in_turn)
    (is_last job given refl behind left stream.last)
    ∙ (ap (λ (p : PartTold). audit_header ∷ part_records job p) stream.as_one
    ∙ ap (λ (j : JobView). audit_header
    ∷ audit_records j refused ran.feeds ran.journals ran.states) (sym job_is))) in
    let written : List ℕ = audit ran.setup.job refused ran.feeds ran.journals ran.states in
    let back : csv_records written ≡ together job (csv_records bytes) =
    c.written_audits_fit.ensures refused ran ∙ sym fits in
    let waits : shown_waits (length rows) s.judged.accepted (together job (csv_records bytes))
    ≡ issue_rows 0 ran.feeds =
    ap (shown_waits (length rows) s.judged.accepted) (sym back)
    ∙ live_shows (setup_view s) rows ran live refused written
    (c.written_audits_fit.ensures refused ran) in
    let given_is : given ≡ given_in (stream_subject s rows bytes) =
    ap (λ (ws : List ℕ). record {
      setup = waiting_for ws (setup_view s);
      refused = refused;
      rows = rows;
    }) (sym waits) in
    let parts_are : parts_of (csv_records bytes) ≡ Some (records_in_turn given start ends
    ++ end ∷ []) =
    ap parts_of told_is
    ∙ ap (λ (l : List Records). Some l) (parts_found c.written_parts_are_found.ensures job given
    start ends left refl stream.in_turn stream.last) in
    record {
      told = record {
        run =
            subst (λ (records : List (List (List ℕ))).
            IsRun (waiting_for (shown_waits (length rows) s.judged.accepted records)
            (setup_view s)) rows ran) back
            (c.live_runs_show_their_waits.ensures.run (setup_view s) rows refused written ran live
            (c.written_audits_fit.ensures refused ran));
        fits = fits;
      };
      in_parts =
          run_parts (stream_subject s rows bytes) given (records_in_turn given start ends) end
          parts_are given_is
          (c.runs_are_told_in_parts.ensures given ends end left stream.in_turn
          (record {
            run = stream.last;
            told = last_told job given refl behind left stream.last;
          }));
    }
