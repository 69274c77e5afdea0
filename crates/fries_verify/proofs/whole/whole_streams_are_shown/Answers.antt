use Rattle.std.proofs.Common.{◌≡◌, ◌∙◌, ◌∷◌, ap, sym}
use Rattle.jobs.specs.Job.{job_view}
use Rattle.flow_model.specs.SetupView.{SetupView}
use Rattle.sink_journal.specs.Audit.{audit_header}
use Rattle.stream_replay.specs.InParts.{Records}
use Rattle.fries_verify.specs.Whole.{setup_of}
use Rattle.fries_verify.proofs.EndedLemmas.{ends, is_live, is_stream, last_left, ran, records_are}
use Rattle.fries_verify.proofs.whole.whole_streams_are_shown.Goals as goal

pub returns : goal.returns
returns c whole bytes is asked told_is =
    let setup = c.args.setup.now in
    let rows = c.args.rows.now in
    let in_order =
    c.accepted_requests_are_in_order.ensures (setup_of whole).job (setup_of whole).requests
    whole.last.part.setup.accepted in
    let same_job : (setup_of whole).job ≡ job_view setup.job =
    sym (ap (λ (s : SetupView). s.job) asked.asked) in (
      ran setup rows whole is asked in_order,
      c.streams_are_shown.ensures (ends setup rows whole is asked in_order)
          (last_left setup rows whole is asked in_order) (ran setup rows whole is asked in_order)
          bytes (is_live setup rows whole is asked in_order)
          (is_stream setup rows whole is asked in_order)
          (told_is
          ∙ ap (λ (l : Records). audit_header ∷ l)
          (records_are setup rows whole is asked in_order (job_view setup.job) same_job)),
    )
