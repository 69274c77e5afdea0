-- A part that was run and written.
use Rattle.std.proofs.Common.{◌≡◌, ◌∙◌, ◌≤◌, ◌+◌, ◌++◌, ℕ, List, [], ◌∷◌, Option, ap, ap₂, arith}
use Rattle.std.proofs.Common.{append-nil, length, map, refl, subst, sym}
use Rattle.jobs.specs.Job.{job_view}
use Rattle.payments.specs.Files.{Files}
use Rattle.payments.specs.Growing.{with_text}
use Rattle.sink_journal.specs.declared.audit.Noted.{Noted}
use Rattle.tuple_trace.specs.FeedRows.{blanks}
use Rattle.tuple_trace.specs.declared.row.Row.{Row}
use Rattle.versions.specs.declared.request.Request.{Request}
use Rattle.flow_model.specs.Record.{record_view}
use Rattle.flow_model.specs.Setup.{setup_view}
use Rattle.flow_model.specs.SetupView.{SetupView}
use Rattle.flow_model.specs.declared.record.RunRecord.{RunRecord}
use Rattle.flow_model.specs.declared.setup.Setup.{Setup}
use Rattle.savepoint.specs.Parts.{start_of}
use Rattle.stream_run.specs.Files.{GrowInTurn, alerts_text, audit_text}
use Rattle.fries_lines.specs.Lines.{alert_count}
use Rattle.stream_step.specs.Parts.{IsBetweenRows, IsRunOn, due_in}
use Rattle.stream_step.specs.Pending.{AreAsked, lifted}
use Rattle.stream_step.specs.declared.stream.Stream.{Stream}
use Rattle.stream_step.proofs.PendingLemmas.{between_rows}
use Rattle.stream_run.specs.Growing.{Goes, GoesAndStops, IsBooked, IsOnePart, Names}
use Rattle.stream_run.specs.Growing.{without_counts}
use Rattle.stream_run.specs.Parts.{HaveRun, KeepsAsked, Part}
use Rattle.stream_run.specs.declared.books.Books.{Books}
use Rattle.stream_run.specs.declared.books.Tally.{Tally}
use Rattle.stream_run.proofs.GoesLemmas.{goes_booked-part, stops-within}
use Rattle.stream_run.proofs.PartLemmas.{First, Later, have_run-one, if_some, length-fed}

pub tally_as : (tally : Tally) (alerts audit unsaved shown : ℕ) → tally.alerts ≡ alerts
    → tally.audit ≡ audit → tally.unsaved ≡ unsaved → tally.shown ≡ shown
    → tally ≡ record { alerts = alerts; audit = audit; unsaved = unsaved; shown = shown }
tally_as tally alerts audit unsaved shown a b c d = rw (sym a, sym b, sym c, sym d) refl

-- a part that was run after a stream, and the stream after it
module _ (later : Later) (first : First) (stream next : Stream) (source last : ℕ)
    (rows : List Row) (ran : RunRecord)
    (on : IsRunOn stream (map (lifted stream.start.row) (due_in stream last))
    (blanks source stream.start.row ++ rows) ran.setup (record_view ran))
    (last_is : last ≡ stream.start.row + length rows) (setup_is : next.setup ≡ ran.setup)
    (start_is : next.start ≡ start_of last (record_view ran))
    (exact_is : next.exact ≡ stream.exact) where
  abbrev part : Part
  part = record { setup = next.setup; rows = rows; left = record_view ran }

  abbrev requests : List Request
  requests = map (lifted stream.start.row) (due_in stream last)

  have_run : HaveRun stream (part ∷ []) next
  have_run =
      have_run-one later first stream next requests source rows (record_view ran) exact_is
      (if_some stream.exact (λ base. IsBetweenRows stream.start.row requests
      (blanks source stream.start.row ++ rows))
      (λ base some. between_rows stream base last (blanks source stream.start.row ++ rows) some
      (length-fed stream source rows ∙ sym last_is) (omega (arith, last_is))))
      (subst (λ (s : Setup). IsRunOn stream requests (blanks source stream.start.row ++ rows) s
      (record_view ran)) (sym setup_is) on)
      (start_is ∙ ap (λ k. start_of k (record_view ran)) last_is) (ap setup_view (sym setup_is))

  -- the counts after a part with these texts
  abbrev counted_so : Books → List ℕ → List ℕ → Tally
  counted_so books alerts audit = record {
    alerts = books.tally.alerts + length alerts;
    audit = books.tally.audit + length audit;
    unsaved = books.tally.unsaved + length rows;
    shown = books.tally.shown + alert_count ran.setup.job.nodes ran.journals;
  }

  view_is : (setup_view next.setup) ≡ (setup_view ran.setup)
  view_is = ap setup_view setup_is

  job_is : job_view next.setup.job ≡ job_view stream.setup.job
  job_is = ap (λ (s : SetupView). s.job) view_is
      ∙ ap (λ (s : SetupView). s.job) on.followed.extended_is

  pub kept : (pending : List Request) → next.pending ≡ pending
      → ((all : List Request) → AreAsked (job_view stream.setup.job) stream.setup.judged.accepted
      stream.pending all → AreAsked (job_view ran.setup.job) ran.setup.judged.accepted pending
      all) → KeepsAsked stream next
  kept pending is asked = record {
    asked = λ all of.
        subst (λ p. AreAsked (job_view next.setup.job) next.setup.judged.accepted p all) (sym is)
        (subst (λ (s : Setup). AreAsked (job_view s.job) s.judged.accepted pending all)
        (sym setup_is) (asked all of));
    job_is = job_is;
    splits_are =
        ap (λ (s : SetupView). s.splits) view_is
        ∙ ap (λ (s : SetupView). s.splits) on.followed.extended_is;
    exact_is = exact_is;
  }

  -- The part was written, and the books count it.
  pub written : (names : Names) (books booked : Books) (old new : Option Files)
      (alerts audit : List ℕ) → alerts ≡ alerts_text (record_view ran) → audit
      ≡ audit_text books.refused.items (without_counts (record_view ran))
      → new ≡ with_text (with_text old names.alerts alerts) names.audit audit
      → booked.refused.items ≡ [] → booked.tally ≡ counted_so books alerts audit → KeepsAsked stream next
      → (goes : Goes names rows stream old next new) × IsOnePart goes.written
      × IsBooked goes.written books booked
  written names books booked old new alerts audit a b e none tally keeps =
      goes_booked-part names stream next old new
      (record { refused = books.refused.items; part = part }) books booked have_run
      (e ∙ (ap (λ t. with_text (with_text old names.alerts t) names.audit audit) a
      ∙ ap (λ t. with_text (with_text old names.alerts (alerts_text (record_view ran)))
      names.audit t) b)) keeps (tally ∙ ap₂ (counted_so books) a b)
      (ap (λ l. books.refused.items ++ l) none ∙ append-nil books.refused.items)

  pub stopped : (names : Names) (refused : List Noted) (old new : Option Files)
      (alerts audit : List ℕ) → alerts ≡ alerts_text (record_view ran) → audit
      ≡ audit_text refused (without_counts (record_view ran))
      → GrowInTurn old new names.alerts alerts names.audit audit → GoesAndStops names stream old new
  stopped names refused old new alerts audit a b grow =
      stops-within names stream old new (record {
        ended = record { refused = refused; part = part };
        next = next;
        have_run = have_run;
        grow =
            subst (λ t. GrowInTurn old new names.alerts
            (alerts_text (record_view ran)) names.audit t) b
            (subst (λ t. GrowInTurn old new names.alerts t names.audit audit) a grow);
      })
