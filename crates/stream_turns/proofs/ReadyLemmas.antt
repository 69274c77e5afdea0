-- A stream stays ready while it runs rows.
use Rattle.std.proofs.Common.{◌≡◌, ◌+◌, ◌-◌, ◌<◌, ◌∙◌, ◌++◌, ℕ, List, [], Option, append-nil}
use Rattle.std.proofs.Common.{arith}
use Rattle.std.proofs.Common.{drop, length, subst, sym}
use Rattle.std.proofs.lemmas.List.{length-drop}
use Rattle.std.specs.Prelude.{IfSome, Some, max}
use Rattle.jobs.specs.Job.{job_view}
use Rattle.jobs.specs.JobView.{JobView}
use Rattle.jobs.specs.Nodes.{IsSourceOf}
use Rattle.payments.specs.Files.{Files}
use Rattle.tuple_trace.specs.declared.row.Row.{Row}
use Rattle.versions.specs.Judged.{judged_within}
use Rattle.versions.specs.declared.request.Request.{Request}
use Rattle.stream_intake.specs.Intake.{IsKnownTo}
use Rattle.stream_intake.specs.declared.known.Known.{Known}
use Rattle.stream_rows.specs.Reader.{IsReadTo, fed_of}
use Rattle.stream_rows.specs.Rows.{and_then, stream_rows}
use Rattle.stream_rows.specs.declared.reader.RowReader.{RowReader}
use Rattle.stream_rows.specs.declared.sound.SoundRows.{SoundRows}
use Rattle.stream_rows.specs.declared.limits.TheConstants.{MAX_ROWS}
use Rattle.stream_run.specs.Growing.{Goes, IsBooked, Names}
use Rattle.stream_run.specs.declared.books.Books.{Books}
use Rattle.stream_run.specs.Parts.{KeepsAsked}
use Rattle.stream_run.proofs.GoesLemmas.{goes-then, goes_booked-then}
use Rattle.stream_step.specs.Pending.{AreAsked}
use Rattle.stream_step.specs.declared.stream.Stream.{Stream}
use Rattle.stream_turns.specs.Turns.{CanTakeTurn}
use Rattle.stream_turns.specs.declared.inputs.StreamInputs.{StreamInputs}

known-kept : (known : List Request) (a b : Stream) → KeepsAsked a b → IsKnownTo known a
    → IsKnownTo known b
known-kept known a b kept is =
    subst (λ (s : ℕ). AreAsked (job_view b.setup.job) b.setup.judged.accepted b.pending
    (judged_within (Some s) (job_view b.setup.job) known).accepted) (sym kept.splits_are)
    (subst (λ (j : JobView). AreAsked (job_view b.setup.job) b.setup.judged.accepted b.pending
    (judged_within (Some a.setup.splits) j known).accepted) (sym kept.job_is) (kept.asked _ is))

-- the rows of a piece were run that come after the last one
pub ready-ran : (source : ℕ) (every : Option ℕ) (a b : Stream) (old new : StreamInputs)
    (rows : List Row) → CanTakeTurn source every a old → KeepsAsked a b → new.known ≡ old.known
    → fed_of new.reader ≡ fed_of old.reader + length rows
    → fed_of old.reader + length rows < MAX_ROWS
    → b.start.row ≡ a.start.row + length (drop (a.start.row - fed_of old.reader) rows)
    → IfSome every (λ rows. new.books.tally.unsaved < max rows 1) → CanTakeTurn source every b new
ready-ran source every a b old new rows ready kept known fed few row none_due =
    let count = length-drop (a.start.row - fed_of old.reader) rows in
    record {
      source_is = subst (λ (j : JobView). IsSourceOf j source) (sym kept.job_is) ready.source_is;
      known = subst (λ (k : Known). IsKnownTo k.requests b) (sym known)
          (known-kept old.known.requests a b kept ready.known);
      fed = omega (arith, fed, row, count, ready.fed);
      few = omega (arith, few, row, count, ready.fed, ready.few);
      none_due = none_due;
    }

-- what goes on without rows
pub goes-without : (names : Names) (rows : List Row) (a b c : Stream) (f g h : Option Files)
    → Goes names rows a f b g → Goes names [] b g c h → Goes names rows a f c h
goes-without names rows a b c f g h one two =
    subst (λ (r : List Row). Goes names r a f c h) (append-nil rows)
    (goes-then names rows [] a b c f g h one two)

-- equal rows, and what goes on without rows
pub booked-rows : (names : Names) (xs ys : List Row) (a b c : Stream) (f g h : Option Files)
    (r s t : Books) → xs ≡ ys → (one : Goes names xs a f b g) × IsBooked one.written r s
    → (two : Goes names [] b g c h) × IsBooked two.written s t
    → (both : Goes names ys a f c h) × IsBooked both.written r t
booked-rows names xs ys a b c f g h r s t same one two =
    subst (λ (l : List Row). (both : Goes names l a f c h) × IsBooked both.written r t)
    (append-nil xs ∙ same)
    (goes_booked-then names xs [] a b c f g h r s t one two)

-- equal streams have one job
pub read-alike : (skipped : ℕ) (text : List ℕ) (reader : RowReader) (a b : Stream) → a ≡ b
    → IsReadTo (job_view a.setup.job) skipped reader text
    → IsReadTo (job_view b.setup.job) skipped reader text
read-alike skipped text reader a b same read =
    subst (λ (s : Stream). IsReadTo (job_view s.setup.job) skipped reader text) same read

pub rows-alike : (skipped : ℕ) (text piece : List ℕ) (sound : SoundRows) (a b : Stream) → a ≡ b
    → stream_rows (job_view a.setup.job) skipped (text ++ piece)
    ≡ and_then (stream_rows (job_view a.setup.job) skipped text).rows sound
    → stream_rows (job_view b.setup.job) skipped (text ++ piece)
    ≡ and_then (stream_rows (job_view b.setup.job) skipped text).rows sound
rows-alike skipped text piece sound a b same is =
    subst (λ (s : Stream). stream_rows (job_view s.setup.job) skipped (text ++ piece)
    ≡ and_then (stream_rows (job_view s.setup.job) skipped text).rows sound) same is
