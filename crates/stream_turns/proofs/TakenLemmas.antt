-- What a stream takes of its input, turn after turn.
use Rattle.std.proofs.Common.{◌≡◌, ◌∙◌, ◌<◌, ◌≤◌, ◌++◌, ℕ, Bool, List, [], Option, None, Some}
use Rattle.std.proofs.Common.{ap, append-nil, append_assoc, arith, false, inl, inr, length, refl}
use Rattle.std.proofs.Common.{subst, sym, true}
use Rattle.std.proofs.KnownBytes.{Consumes-nil, Consumes-trans}
use Rattle.std.proofs.lemmas.List.{length-append}
use Rattle.std.specs.Prelude.{if◌then◌else◌, unwrap_or}
use Rattle.csv.specs.Reading.{default_config, records, strip_bom}
use Rattle.input_pieces.specs.Cut.{IsCut}
use Rattle.input_pieces.specs.Gathering.{Gathers, is_over, kept_of}
use Rattle.input_pieces.specs.Taps.{TapState}
use Rattle.input_pieces.specs.declared.pieces.Pieces.{Pieces}
use Rattle.jobs.specs.Job.{job_view}
use Rattle.jobs.specs.JobView.{JobView}
use Rattle.payments.specs.declared.read.PFault.{PFault}
use Rattle.payments.specs.declared.read.PFault.TheVariants as payments
use Rattle.tuple_trace.specs.declared.row.Row.{Row}
use Rattle.flow_model.specs.Begin.{Begin}
use Rattle.flow_model.specs.declared.setup.Setup.{Setup}
use Rattle.fries_lines.specs.declared.fault.Fault.{Fault}
use Rattle.fries_lines.specs.declared.fault.Fault.TheVariants as fault
use Rattle.stream_rows.specs.Reader.{IsReadTo, end_fault, fed_of, has_items}
use Rattle.stream_rows.specs.Rows.{stream_rows}
use Rattle.stream_rows.specs.declared.reader.RowReader.{RowReader}
use Rattle.stream_rows.specs.declared.sound.SoundRows.{SoundRows}
use Rattle.stream_rows.proofs.ReadLemmas.{IsCut-append, stream_rows-append}
use Rattle.stream_run.specs.Growing.{Goes, Names, Written}
use Rattle.stream_run.proofs.GoesLemmas.{goes_both, goes_none}
use Rattle.stream_turns.specs.Taken.{EndsAs, HasGone, HasGoneOn, HasRunRows, HasRunText}
use Rattle.stream_turns.specs.Taken.{HasBooked, HasReadText}
use Rattle.stream_turns.specs.Taken.{HasTakenTurn, IsAllTaken, StreamState, end_for, fault_in}
use Rattle.stream_turns.specs.Taken.{job_at}
use Rattle.stream_turns.specs.Taken.{rows_to_run}
use Rattle.stream_turns.specs.Turns.{GivesPiece, IsDrained, IsPiece, IsUnreadable}
use Rattle.stream_turns.specs.declared.turns.End.{End}
use Rattle.stream_turns.specs.declared.turns.End.TheVariants as end
use Rattle.stream_turns.specs.declared.turns.Piece.{Piece}
use Rattle.stream_step.specs.declared.stream.Stream.{Stream}
use Rattle.stream_step.proofs.PendingLemmas.{JudgedLater}
use Rattle.stream_turns.proofs.BookLemmas.{booked-none, booked-then}
use Rattle.stream_turns.proofs.TextLemmas.{left-both, none-left}

-- ---- the input

gathers-then : (a b c : Option (List ℕ)) (kept mid keeps first second : List ℕ)
    → Gathers a b kept first mid → Gathers b c mid second keeps
    → Gathers a c kept (first ++ second) keeps
gathers-then a b c kept mid keeps first second (x, p, e) (y, q, f) = (
  x ++ y,
  Consumes-trans a b c x y p q,
  sym (append_assoc kept x y) ∙ ap (λ l. l ++ y) e ∙ append_assoc first mid y
      ∙ ap (λ l. first ++ l) f ∙ sym (append_assoc first second keeps),
)

-- ---- rows that were run

-- no row was run between two places: at most requests were read
pub record IsBetween (a m : StreamState) : Type 0 where
  pub setup : m.stream.setup ≡ a.stream.setup
  pub start : m.stream.start ≡ a.stream.start
  pub exact : m.stream.exact ≡ a.stream.exact
  pub files : m.files ≡ a.files
  pub reader : m.inputs.reader ≡ a.inputs.reader
  pub booked : HasBooked a.stream [] a.inputs m.inputs

run-then : JudgedLater → (names : Names) (xs ys : List Row) (a b c : StreamState)
    → HasRunRows names xs a b → HasRunRows names ys b c → HasRunRows names (xs ++ ys) a c
run-then law names xs ys a b c one two = record {
  goes = both.0;
  row = omega (arith, one.row, two.row, length-append xs ys);
  booked = subst (λ (w : List Written). HasBooked a.stream w a.inputs c.inputs) (sym both.1)
      (booked-then law a.stream b.stream one.goes.written two.goes.written a.inputs b.inputs
      c.inputs one.goes.splits_are one.goes.job_is one.booked two.booked);
}
  where
    both : (goes : Goes names (xs ++ ys) a.stream a.files c.stream c.files)
        × (goes.written ≡ one.goes.written ++ two.goes.written)
    both =
        goes_both names xs ys a.stream b.stream c.stream a.files b.files c.files one.goes two.goes

run-none : (names : Names) (a b : StreamState) → IsBetween a b → HasRunRows names [] a b
run-none names a b is =
    let row : b.stream.start.row ≡ a.stream.start.row = ap (λ (s : Begin). s.row) is.start in
    let none =
    goes_none names a.stream b.stream a.files b.files is.setup is.start is.exact is.files in
    record {
      goes = none.0;
      row = omega (arith, row);
      booked = subst (λ (w : List Written). HasBooked a.stream w a.inputs b.inputs) (sym none.1)
          is.booked;
    }

-- what is run from a place is run from one before which no row was run since
run-from : JudgedLater → (names : Names) (skipped : ℕ) (text : List ℕ) (a m b : StreamState)
    → IsBetween a m
    → HasRunRows names (rows_to_run (job_at m) skipped text m.stream.start.row) m b
    → HasRunRows names (rows_to_run (job_at a) skipped text a.stream.start.row) a b
run-from law names skipped text a m b is run =
    let job : job_at m ≡ job_at a = ap (λ (s : Setup). job_view s.job) is.setup in
    let row : m.stream.start.row ≡ a.stream.start.row = ap (λ (s : Begin). s.row) is.start in
    let rows = rows_to_run (job_at m) skipped text m.stream.start.row in
    let same : rows ≡ rows_to_run (job_at a) skipped text a.stream.start.row =
    ap (λ (j : JobView). rows_to_run j skipped text m.stream.start.row) job
    ∙ ap (λ (r : ℕ). rows_to_run (job_at a) skipped text r) row in
    subst (λ (r : List Row). HasRunRows names r a b) same
    (run-then law names [] rows a m b (run-none names a m is) run)

-- ---- nothing was taken

ran-nothing : (names : Names) (skipped : ℕ) (text : List ℕ) (a b : StreamState)
    → HasReadText skipped text a → fed_of a.inputs.reader ≤ a.stream.start.row → IsBetween a b
    → HasRunRows names (rows_to_run (job_at a) skipped (text ++ []) a.stream.start.row) a b
ran-nothing names skipped text a b has le is =
    let none : [] ≡ rows_to_run (job_at a) skipped (text ++ []) a.stream.start.row =
    sym
    (ap (λ (t : List ℕ). rows_to_run (job_at a) skipped t a.stream.start.row)
    (append-nil text)
    ∙ none-left (job_at a) skipped text a.inputs.reader a.stream.start.row has.read le) in
    subst (λ (r : List Row). HasRunRows names r a b) none (run-none names a b is)

-- only pieces were read
pub between-pieces : (a b : StreamState) → b.stream ≡ a.stream → b.files ≡ a.files
    → b.inputs.reader ≡ a.inputs.reader → b.inputs.known ≡ a.inputs.known
    → b.inputs.refused ≡ a.inputs.refused → b.inputs.books ≡ a.inputs.books → IsBetween a b
between-pieces a b stream files reader known refused books = record {
  setup = ap (λ (s : Stream). s.setup) stream;
  start = ap (λ (s : Stream). s.start) stream;
  exact = ap (λ (s : Stream). s.exact) stream;
  files = files;
  reader = reader;
  booked = booked-none a.stream a.inputs b.inputs known refused books;
}

-- a stream that has done nothing
pub gone-nothing : (names : Names) (skipped : ℕ) (text : List ℕ) (a : StreamState)
    → HasReadText skipped text a → fed_of a.inputs.reader ≤ a.stream.start.row
    → HasGoneOn names skipped text a a
gone-nothing names skipped text a has le = record {
  gone = record {
    given = [];
    gathered = ([], Consumes-nil a.tap.left, append-nil (kept_of a.inputs.pieces));
    over = λ is. (refl, is);
    ran = ran-nothing names skipped text a a has le (between-pieces a a refl refl refl refl refl refl);
  };
  taken = subst (λ (t : List ℕ). HasReadText skipped t a) (sym (append-nil text)) has;
  faults = refl;
}

-- a stream that ends after what it had taken
pub turned-end : (names : Names) (skipped : ℕ) (text : List ℕ) (a b : StreamState) (why : End)
    → HasReadText skipped text a → fed_of a.inputs.reader ≤ a.stream.start.row
    → Gathers a.tap.left b.tap.left (kept_of a.inputs.pieces) [] (kept_of b.inputs.pieces)
    → (is_over a.inputs.pieces ≡ true → is_over b.inputs.pieces ≡ true) → IsBetween a b
    → EndsAs why skipped text a b → HasTakenTurn names skipped text a (Some why) b
turned-end names skipped text a b why has le gathered over same is = (
  record {
    given = [];
    gathered = gathered;
    over = λ o. (refl, over o);
    ran = ran-nothing names skipped text a b has le same;
  },
  subst (λ (t : List ℕ). EndsAs why skipped t a b) (sym (append-nil text)) is,
)

-- ---- turn after turn

-- what a stream has gone on with comes after what it had taken
rows-on : (skipped : ℕ) (text given : List ℕ) (b : StreamState) → HasReadText skipped text b
    → (is_over b.inputs.pieces ≡ true → given ≡ [])
    → (rows : List Row) × ((stream_rows (job_at b) skipped (text ++ given)).rows
    ≡ (stream_rows (job_at b) skipped text).rows ++ rows)
rows-on skipped text given b has over = go (is_over b.inputs.pieces) refl
  where
    go : (o : Bool) → is_over b.inputs.pieces ≡ o
        → (rows : List Row) × ((stream_rows (job_at b) skipped (text ++ given)).rows
        ≡ (stream_rows (job_at b) skipped text).rows ++ rows)
    go true is = (
      [],
      ap (λ (g : List ℕ). (stream_rows (job_at b) skipped (text ++ g)).rows) (over is)
          ∙ ap (λ (t : List ℕ). (stream_rows (job_at b) skipped t).rows) (append-nil text)
          ∙ sym (append-nil (stream_rows (job_at b) skipped text).rows),
    )
    go false is = (
      _,
      ap (λ (s : SoundRows). s.rows)
          (stream_rows-append (job_at b) skipped b.inputs.reader text given has.read (has.cut is)),
    )

module _ (law : JudgedLater) (names : Names) (skipped : ℕ) (text : List ℕ) (a b c : StreamState)
    (within : skipped ≤ a.stream.start.row) (on : HasGoneOn names skipped text a b) where
  longer : (more : List ℕ) → (text ++ on.gone.given) ++ more ≡ text ++ (on.gone.given ++ more)
  longer more = append_assoc text on.gone.given more

  job_same : job_at b ≡ job_at a
  job_same = on.gone.ran.goes.job_is

  rows-then : (gone : HasGone names skipped (text ++ on.gone.given) b c)
      → HasRunRows names
      (rows_to_run (job_at a) skipped (text ++ (on.gone.given ++ gone.given))
      a.stream.start.row) a c
  rows-then gone =
      let first = text ++ on.gone.given in
      let more = rows-on skipped first gone.given b on.taken (λ is. (gone.over is).0) in
      let later = rows_to_run (job_at b) skipped (first ++ gone.given) b.stream.start.row in
      let more_is : (stream_rows (job_at a) skipped (first ++ gone.given)).rows
      ≡ (stream_rows (job_at a) skipped first).rows ++ more.0 =
      subst (λ (j : JobView). (stream_rows j skipped (first ++ gone.given)).rows
      ≡ (stream_rows j skipped first).rows ++ more.0) job_same more.1 in
      let both =
      left-both (job_at a) skipped first gone.given a.stream.start.row b.stream.start.row more.0
      within more_is on.gone.ran.row in
      let same : rows_to_run (job_at a) skipped first a.stream.start.row ++ later
      ≡ rows_to_run (job_at a) skipped (text ++ (on.gone.given ++ gone.given))
      a.stream.start.row =
      ap (λ (j : JobView). rows_to_run (job_at a) skipped first a.stream.start.row
      ++ rows_to_run j skipped (first ++ gone.given) b.stream.start.row) job_same
      ∙ sym both
      ∙ ap (λ (t : List ℕ). rows_to_run (job_at a) skipped t a.stream.start.row)
      (longer gone.given) in
      subst (λ (r : List Row). HasRunRows names r a c) same
      (run-then law names (rows_to_run (job_at a) skipped first a.stream.start.row) later a b c
      on.gone.ran gone.ran)

  over-then : (gone : HasGone names skipped (text ++ on.gone.given) b c)
      → is_over a.inputs.pieces ≡ true
      → (on.gone.given ++ gone.given ≡ []) × (is_over c.inputs.pieces ≡ true)
  over-then gone is =
      let one = on.gone.over is in
      let two = gone.over one.1 in
      (ap (λ (g : List ℕ). g ++ gone.given) one.0 ∙ two.0, two.1)

  gathered-both : (gone : HasGone names skipped (text ++ on.gone.given) b c)
      → Gathers a.tap.left c.tap.left (kept_of a.inputs.pieces) (on.gone.given ++ gone.given)
      (kept_of c.inputs.pieces)
  gathered-both gone =
      gathers-then a.tap.left b.tap.left c.tap.left (kept_of a.inputs.pieces)
      (kept_of b.inputs.pieces) (kept_of c.inputs.pieces) on.gone.given gone.given
      on.gone.gathered gone.gathered

  ends-then : (why : End) (more : List ℕ) → EndsAs why skipped ((text ++ on.gone.given) ++ more) b c
      → EndsAs why skipped (text ++ (on.gone.given ++ more)) a c
  ends-then why more is =
      subst (λ (t : List ℕ). EndsAs why skipped t a c) (longer more) (from why is)
    where
      whole : List ℕ
      whole = (text ++ on.gone.given) ++ more

      from : (why : End) → EndsAs why skipped whole b c → EndsAs why skipped whole a c
      from end.Input (read, header, all) = (
        subst (λ (j : JobView). IsReadTo j skipped c.inputs.reader whole) job_same read,
        header,
        all,
      )
      from (end.Fault why) (inl (is, at_end, named)) =
          inl
          (is, subst (λ (j : JobView). fault_in j skipped whole ≡ Some is) job_same at_end, named)
      from (end.Fault why) (inr (none, inl lacks)) =
          inr (subst (λ (j : JobView). fault_in j skipped whole ≡ None) job_same none, inl lacks)
      from (end.Fault why) (inr (none, inr unreadable)) =
          inr (
            subst (λ (j : JobView). fault_in j skipped whole ≡ None) job_same none,
            inr (subst (λ (n : ℕ). IsUnreadable c.inputs.pieces n c.tap.faults why) on.faults
                unreadable),
          )

  pub turned-then : (ends : Option End)
      → HasTakenTurn names skipped (text ++ on.gone.given) b ends c
      → HasTakenTurn names skipped text a ends c
  turned-then None (next, some) = (
    record {
      gone = record {
        given = on.gone.given ++ next.gone.given;
        gathered = gathered-both next.gone;
        over = over-then next.gone;
        ran = rows-then next.gone;
      };
      taken = subst (λ (t : List ℕ). HasReadText skipped t c) (longer next.gone.given) next.taken;
      faults = next.faults ∙ on.faults;
    },
    omega (arith, some, length-append on.gone.given next.gone.given),
  )
  turned-then (Some why) (gone, is) = (
    record {
      given = on.gone.given ++ gone.given;
      gathered = gathered-both gone;
      over = over-then gone;
      ran = rows-then gone;
    },
    ends-then why gone.given is,
  )

-- what is known of a piece
pub piece-is : (before after : TapState) (old new : Pieces) (p q : Piece) → p ≡ q
    → IsPiece before after old new p → IsPiece before after old new q
piece-is before after old new p q same is =
    subst (λ (r : Piece). IsPiece before after old new r) same is

pub text-is : (names : Names) (skipped : ℕ) (text p q : List ℕ) (m b : StreamState)
    (ends : Option End) → p ≡ q → HasRunText names skipped (text ++ p) m ends b
    → HasRunText names skipped (text ++ q) m ends b
text-is names skipped text p q m b ends same run =
    subst (λ (piece : List ℕ). HasRunText names skipped (text ++ piece) m ends b) same run

-- what is known of the end of a turn
pub turned-is : (names : Names) (skipped : ℕ) (text : List ℕ) (a b : StreamState)
    (ends others : Option End) → ends ≡ others → HasTakenTurn names skipped text a ends b
    → HasTakenTurn names skipped text a others b
turned-is names skipped text a b ends others same turned =
    subst (λ (e : Option End). HasTakenTurn names skipped text a e b) same turned

-- ---- a piece was taken

by_fault : (o : Option PFault) (why : End) → Some why ≡ end_for o
    → (is : PFault) × (o ≡ Some is) × (why ≡ end.Fault (fault.Payments is))
by_fault None why same = absurd (cc same)
by_fault (Some is) why same = (is, refl, ap (λ (o : Option End). unwrap_or o why) same)

pub none_ends : (o : Option PFault) → end_for o ≡ None → o ≡ None
none_ends None same = refl
none_ends (Some is) same = absurd (cc same)

module _ (law : JudgedLater) (names : Names) (skipped : ℕ) (text piece : List ℕ)
    (a m b : StreamState) (p : Pieces)
    (has : HasReadText skipped text a) (between : IsBetween a m)
    (read : GivesPiece a.tap b.tap a.inputs.pieces p piece) (same : m.inputs.pieces ≡ p)
    (goes_on : is_over a.inputs.pieces ≡ false) where
  job : job_at m ≡ job_at a
  job = ap (λ (s : Setup). job_view s.job) between.setup

  pub read-before : IsReadTo (job_at m) skipped m.inputs.reader text
  read-before =
      subst (λ (j : JobView). IsReadTo j skipped m.inputs.reader text) (sym job)
      (subst (λ (r : RowReader). IsReadTo (job_at a) skipped r text) (sym between.reader) has.read)

  module _ (ends : Option End) (run : HasRunText names skipped (text ++ piece) m ends b) where
    left : b.inputs.pieces ≡ p
    left = run.pieces_are ∙ same

    gathered : Gathers a.tap.left b.tap.left (kept_of a.inputs.pieces) piece
        (kept_of b.inputs.pieces)
    gathered =
        subst (λ (q : Pieces). Gathers a.tap.left b.tap.left (kept_of a.inputs.pieces) piece
        (kept_of q)) (sym left) read.gathered

    ran : HasRunRows names
        (rows_to_run (job_at a) skipped (text ++ piece) a.stream.start.row) a b
    ran =
        run-from law names skipped (text ++ piece) a m b between run.ran

    over : is_over a.inputs.pieces ≡ true → (piece ≡ []) × (is_over b.inputs.pieces ≡ true)
    over is = absurd (cc (is, goes_on))

    whole : IsDrained b.inputs.pieces b.tap
    whole = subst (λ (q : Pieces). IsDrained q b.tap) (sym left) (read.whole has.whole)

  pub turned-piece : (ends : Option End) → 0 < length piece
      → (is_over p ≡ false → IsCut default_config piece) → b.tap.faults ≡ a.tap.faults
      → HasRunText names skipped (text ++ piece) m ends b → HasTakenTurn names skipped text a ends b
  turned-piece ends some cut faults run = go ends run run.end_is run.read
    where
      go : (ends : Option End) → HasRunText names skipped (text ++ piece) m ends b
          → ends ≡ end_for (fault_in (job_at m) skipped (text ++ piece))
          → (ends ≡ None → IsReadTo (job_at m) skipped b.inputs.reader (text ++ piece))
          → HasTakenTurn names skipped text a ends b
      go None run is reads = (
        record {
          gone = record {
            given = piece;
            gathered = gathered None run;
            over = over None run;
            ran = ran None run;
          };
          taken = record {
            read = subst (λ (j : JobView). IsReadTo j skipped b.inputs.reader (text ++ piece))
                (sym run.ran.goes.job_is) (reads refl);
            cut = λ on. IsCut-append text piece (has.cut goes_on)
                (cut (ap (λ (q : Pieces). is_over q) (sym (left None run)) ∙ on));
            whole = whole None run;
          };
          faults = faults;
        },
        some,
      )
      go (Some why) run is reads =
          let (found, here, named) =
          by_fault (fault_in (job_at m) skipped (text ++ piece)) why is in (
            record {
              given = piece;
              gathered = gathered (Some why) run;
              over = over (Some why) run;
              ran = ran (Some why) run;
            },
            subst (λ (e : End). EndsAs e skipped (text ++ piece) a b) (sym named)
                (inl (
                  found,
                  subst (λ (j : JobView). fault_in j skipped (text ++ piece) ≡ Some found) job here,
                  refl,
                )),
          )

-- ---- the input has ended, or isn't read on

-- what the end of an input is, by what was read
pub ends-so : (skipped : ℕ) (text : List ℕ) (a b : StreamState) (why : End)
    → IsReadTo (job_at a) skipped b.inputs.reader text → IsAllTaken b
    → why ≡ unwrap_or (end_for (end_fault b.inputs.reader)) end.Input
    → EndsAs why skipped text a b
ends-so skipped text a b why read all is = go b.inputs.reader.has_header read.header is
  where
    go : (h : Bool)
        → h ≡ has_items (records default_config (strip_bom text))
        → why ≡ unwrap_or (end_for (if h then None else Some payments.NoHeader)) end.Input
        → EndsAs why skipped text a b
    go true header same =
        subst (λ (e : End). EndsAs e skipped text a b) (sym same)
        (read, sym header, all)
    go false header same =
        subst (λ (e : End). EndsAs e skipped text a b) (sym same)
        (inr (read.sound, inl (refl, sym header, all)))

-- a stream whose input isn't read on
pub turned-unread : (names : Names) (skipped : ℕ) (text : List ℕ) (a b : StreamState)
    (why : Fault) → HasReadText skipped text a → fed_of a.inputs.reader ≤ a.stream.start.row
    → Gathers a.tap.left b.tap.left (kept_of a.inputs.pieces) [] (kept_of b.inputs.pieces)
    → (is_over a.inputs.pieces ≡ true → is_over b.inputs.pieces ≡ true) → IsBetween a b
    → IsUnreadable b.inputs.pieces a.tap.faults b.tap.faults why
    → HasTakenTurn names skipped text a (Some (end.Fault why)) b
turned-unread names skipped text a b why has le gathered over same unreadable =
    turned-end names skipped text a b (end.Fault why) has le gathered over same
    (inr (has.read.sound, inr unreadable))
