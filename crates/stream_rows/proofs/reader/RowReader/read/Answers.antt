use Rattle.std.proofs.Common.{◌≡◌, ◌∙◌, ◌||◌, not, sym, ap, subst}
use Rattle.std.specs.Prelude.{All}
use Rattle.csv.specs.Reading.{default_config, records}
use Rattle.jobs.specs.Job.{job_view}
use Rattle.jobs.specs.Limits.{HasShortTexts}
use Rattle.jobs.specs.Nodes.{AreFromSources}
use Rattle.tuple_trace.specs.FeedRows.{AreRowsAfter}
use Rattle.tuple_trace.specs.declared.row.Row.{Row}
use Rattle.stream_rows.specs.Reader.{has_items, text_of}
use Rattle.stream_rows.specs.Rows.{and_then, stream_rows}
use Rattle.stream_rows.specs.declared.sound.SoundRows.{SoundRows}
use Rattle.stream_rows.proofs.ReadLemmas.{AreFromSources-rows_at, AreRowsAfter-rows_at}
use Rattle.stream_rows.proofs.ReadLemmas.{HaveShortTexts-rows_at, IsReadTo-append, has_items-length}
use Rattle.stream_rows.proofs.ReadLemmas.{stream_rows-append}
use Rattle.stream_rows.proofs.reader.RowReader.read.Goals as goal
use Rattle.stream_rows.proofs.reader.RowReader.read.Goals.{else-self, then-self}

pub returns-clause-rows : goal.returns-clause-rows
returns-clause-rows c skipped before is cut =
    let job = job_view c.args.job.now in
    stream_rows-append job skipped c.args.self.now before c.args.piece.now is cut
    ∙ ap (and_then (stream_rows job skipped before).rows) (sym c.in_ok-sound.ensures.read.rows)

pub returns-clause-read : goal.returns-clause-read
returns-clause-read c skipped before is cut clean =
    let has = c.in_ok-sound.ensures.read in
    let begun : c.if-self.self ≡ (c.args.self.now.begun || has_items c.args.piece.now) =
    elim c.if-self.branch [
      | then-self w ↦ w.self-is ∙ w.if-self.true
          ∙ sym (ap (λ b. b || has_items c.args.piece.now) (sym has.begun ∙ w.if-self.true))
      | else-self w ↦ w.self-is ∙ ap not w.is_empty.ensures ∙ has_items-length c.args.piece.now
          ∙ sym (ap (λ b. b || has_items c.args.piece.now) (sym has.begun ∙ w.if-self.false))
    ] in
    IsReadTo-append (job_view c.args.job.now) skipped c.args.self.now _ before c.args.piece.now
    c.in_ok-sound.sound is cut has.rows begun (has.header clean) has.fed clean

pub returns-clause-numbered : goal.returns-clause-numbered
returns-clause-numbered c =
    let old = c.args.self.now in
    subst (λ (s : SoundRows). AreRowsAfter c.args.self.now.fed s.rows)
    (sym c.in_ok-sound.ensures.read.rows)
    (AreRowsAfter-rows_at (job_view c.args.job.now) old.has_header old.fed
    (records default_config (text_of old.begun c.args.piece.now)))

pub returns-clause-sources : goal.returns-clause-sources
returns-clause-sources c =
    let old = c.args.self.now in
    subst (λ (s : SoundRows). AreFromSources (job_view c.args.job.now) s.rows)
    (sym c.in_ok-sound.ensures.read.rows)
    (AreFromSources-rows_at (job_view c.args.job.now) old.has_header old.fed
    (records default_config (text_of old.begun c.args.piece.now)))

pub returns-clause-texts : goal.returns-clause-texts
returns-clause-texts c =
    let old = c.args.self.now in
    subst (λ (s : SoundRows). All (λ (row : Row). HasShortTexts row.tuple) s.rows)
    (sym c.in_ok-sound.ensures.read.rows)
    (HaveShortTexts-rows_at (job_view c.args.job.now) old.has_header old.fed
    (records default_config (text_of old.begun c.args.piece.now)))
