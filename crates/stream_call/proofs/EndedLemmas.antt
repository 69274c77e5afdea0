-- How a stream ends.
use Rattle.std.proofs.Common.{◌≡◌, ◌∙◌, ◌++◌, ℕ, List, [], Option, None, Some, ap, arith, drop}
use Rattle.std.proofs.Common.{false}
use Rattle.std.proofs.Common.{inl, inr, length, map, refl, subst, sym}
use Rattle.std.proofs.Math.ListN.{drop_of_length-le}
use Rattle.std.specs.Prelude.{Err, IfErr, IfNone, IfSome, Ok, OnOk, Result, ⊤, unwrap_or}
use Rattle.std.specs.Result.{result_err}
use Rattle.input_pieces.specs.Gathering.{is_over}
use Rattle.payments.specs.Causes.{Faults}
use Rattle.payments.specs.Files.{Files}
use Rattle.payments.specs.World.{ShelfState}
use Rattle.std.proofs.lemmas.List.FromFn.{length-map-range_with_len}
use Rattle.tuple_trace.specs.FeedRows.{blank, blanks}
use Rattle.tuple_trace.specs.declared.row.Row.{Row}
use Rattle.flow_model.specs.Begin.{Begin}
use Rattle.flow_model.specs.Run.{Ran}
use Rattle.flow_model.specs.declared.setup.Setup.{Setup}
use Rattle.stream_law.specs.Stream.{IsRunSoFar, SoFar, with_part}
use Rattle.fries_lines.specs.declared.fault.Fault.{Fault}
use Rattle.stream_rows.specs.Reader.{IsReadTo, fed_of}
use Rattle.stream_step.specs.Parts.{first_part}
use Rattle.stream_step.specs.Pending.{lifted}
use Rattle.stream_step.specs.declared.stream.Stream.{Stream}
use Rattle.stream_law.specs.Border.{AreExactAfter}
use Rattle.stream_intake.specs.Intake.{IsKnownTo}
use Rattle.stream_intake.specs.declared.known.Known.{Known}
use Rattle.stream_run.specs.Growing.{Goes, GoesAndStops, IsBooked, Names, parts_in}
use Rattle.stream_run.specs.Parts.{HasCome, with_all, with_one}
use Rattle.stream_run.specs.Standing.{Begins, FileHolds, saved_text}
use Rattle.stream_run.specs.declared.books.Books.{Books}
use Rattle.stream_run.proofs.PartLemmas.{First, Later, if_some}
use Rattle.stream_parts.specs.End.{IsLastRun}
use Rattle.stream_turns.specs.Taken.{HasReadText, HasTakenTurn, StreamState, at, job_at}
use Rattle.stream_turns.specs.Turns.{IsGivenUp}
use Rattle.stream_turns.specs.declared.inputs.StreamInputs.{StreamInputs}
use Rattle.stream_turns.specs.declared.turns.End.TheVariants as end
use Rattle.stream_call.specs.Ended.{AreKept, EndsWhole, HasEndedAt, IsLeftBy, IsSavedAt, IsUnended}
use Rattle.stream_call.specs.Ended.{Left, Terms, last_part}
use Rattle.stream_call.specs.declared.fault.StreamFault.{StreamFault}
use Rattle.stream_call.specs.declared.fault.StreamFault.TheVariants as stream

-- what a call that ends so has as its fault
pub none-so : {E : Type 0} (r : Result ⊤ E) (P : Type 0) → OnOk r P → IfNone (result_err r) P
none-so (Ok value) P is = is
none-so (Err why) P is = tt

pub some-so : {E : Type 0} (r : Result ⊤ E) (P : E → Type 0) → IfErr r P
    → IfSome (result_err r) P
some-so (Ok value) P is = tt
some-so (Err why) P is = is

-- nothing was read yet
pub nothing-read : (place : StreamState)
    → IsReadTo (job_at place) (fed_of place.inputs.reader) place.inputs.reader []
    → is_over place.inputs.pieces ≡ false → HasReadText (fed_of place.inputs.reader) [] place
nothing-read place read goes_on = record {
  read = read;
  cut = λ on. refl;
  whole = λ over. absurd (cc (over, goes_on));
}

-- the row where a call began
pub begun-row : (behind : Option ℕ) (names : Names) (begin : Stream) (files : Option Files)
    → Begins behind names begin files → unwrap_or behind 0 ≡ begin.start.row
begun-row None names begin files is = sym (ap (λ (b : Begin). b.row) is.first)
begun-row (Some row) names begin files is = sym is

-- what is so of a run and of its borders, if they are exact
abbrev IsRunAnd : Option ℕ → SoFar → Type 0
IsRunAnd exact so_far = IsRunSoFar so_far × IfSome exact (λ base. AreExactAfter base so_far)

-- whatever a stream had run, that and its last part are one run, which keeps exact borders
run-last : Later → First → (stream : Stream) (source : ℕ) (setup : Setup) (left : Ran)
    → IsLastRun stream source setup left → (so_far : Option SoFar) → HasCome stream so_far
    → IsRunAnd stream.exact (with_one so_far (last_part setup left))
run-last later first stream source setup left last None come =
    let requests = map (lifted stream.start.row) stream.pending in
    let is = first stream requests (blanks source stream.start.row) setup left come last in
    let row : stream.start.row ≡ 0 = ap (λ (b : Begin). b.row) come in
    subst (λ (r : List Row). IsRunAnd stream.exact (first_part setup r left))
    (ap (λ (k : ℕ). blanks source k) row) (
      is.run,
      if_some stream.exact
          (λ base. AreExactAfter base (first_part setup (blanks source stream.start.row) left))
          (λ base some. is.borders base (inl (length-map-range_with_len (blank source) 0 stream.start.row ∙ row))),
    )
run-last later first stream source setup left last (Some so) come =
    let requests = map (lifted stream.start.row) stream.pending in
    let fed = blanks source stream.start.row in
    let no_rows : List Row = [] in
    let both = later stream so requests fed setup left come last in
    let row : stream.start.row ≡ length so.rows = ap (λ (b : Begin). b.row) come.start_is in
    let none : drop (length so.rows) fed ≡ no_rows =
    drop_of_length-le fed (omega (arith, row, length-map-range_with_len (blank source) 0 stream.start.row)) in
    let rows : both.0.rows ≡ so.rows ++ no_rows =
    both.1.is_run.rows_are ∙ ap (λ (r : List Row). so.rows ++ r) none in
    subst (λ (l : Ran). IsRunAnd stream.exact (with_part so
    (record { setup = setup; rows = so.rows ++ no_rows; left = l }))) both.1.left_is
    (subst (λ (r : List Row). IsRunAnd stream.exact (with_part so
    (record { setup = setup; rows = r; left = both.0.left }))) rows
    (subst (λ (s : Setup). IsRunAnd stream.exact (with_part so
    (record { setup = s; rows = both.0.rows; left = both.0.left }))) both.1.setup_is (
      both.1.one_run,
      if_some stream.exact (λ base. AreExactAfter base (with_part so both.0)) (λ base some.
          both.1.borders base (inl (length-map-range_with_len (blank source) 0 stream.start.row ∙ row))
          (subst (λ o. IfSome o (λ n. AreExactAfter n so)) some come.exact)),
    )))

-- the savepoint was written where the stream is, and the books count it
pub saved-at : (terms : Terms) (stream next : Stream) (old books : Books)
    (before after : Option Files) → next ≡ stream
    → (goes : Goes terms.names [] stream before next after) × IsBooked goes.written old books
    → IfSome terms.every (λ every. FileHolds after terms.names.save
    (saved_text next books.read books.tally.alerts books.tally.audit))
    → (saved : IsSavedAt terms stream books before after)
    × IsBooked saved.goes.written old books
saved-at terms stream next old books before after same goes holds =
    subst (λ (s : Stream).
    (g : Goes terms.names [] stream before s after) × IsBooked g.written old books
    → IfSome terms.every (λ every. FileHolds after terms.names.save
    (saved_text s books.read books.tally.alerts books.tally.audit))
    → (saved : IsSavedAt terms stream books before after)
    × IsBooked saved.goes.written old books) (sym same)
    (λ g h. (record { goes = g.0; holds = h }, g.1)) goes holds

-- requests that are known stay so
known-kept : (old new : StreamInputs) (stream : Stream) → AreKept old new
    → IsKnownTo old.known.requests stream → IsKnownTo new.known.requests stream
known-kept old new stream kept known =
    subst (λ (k : Known). IsKnownTo k.requests stream) (sym kept.known) known

-- a stream whose input has ended, and that was ended then
pub ends-whole : Later → First → (terms : Terms) (begin : StreamState) (stream : Stream)
    (files : Option Files) (mid : StreamInputs) (left : Left)
    → HasTakenTurn terms.names (fed_of begin.inputs.reader) [] begin (Some end.Input)
    (at stream files mid left.tap) → fed_of left.inputs.reader ≡ stream.start.row
    → IsKnownTo mid.known.requests stream → AreKept mid left.inputs
    → (ended : HasEndedAt terms stream left.inputs.books files left.shelf.files)
    × IsBooked ended.is_saved.goes.written mid.books left.inputs.books
    → EndsWhole terms begin left
ends-whole later first terms begin stream files mid left took fed known kept (ended, booked) =
    record {
      turned = record { stream = stream; files = files; inputs = mid; took = took };
      all_run = fed;
      ended = ended;
      kept = kept;
      booked = booked;
      known = known-kept mid left.inputs stream kept known;
      one_run = λ before come. (last before come).0;
      exact = λ before come.
          subst (λ o. IfSome o (λ base. AreExactAfter base (with_one
          (with_all before (parts_in took.0.ran.goes.written))
          (last_part ended.setup ended.left)))) took.0.ran.goes.exact_is (last before come).1;
    }
  where
    last : (before : Option SoFar) → HasCome begin.stream before → IsRunAnd stream.exact
        (with_one (with_all before (parts_in took.0.ran.goes.written))
        (last_part ended.setup ended.left))
    last before come =
        run-last later first stream terms.source ended.setup ended.left ended.last
        (with_all before (parts_in took.0.ran.goes.written))
        (took.0.ran.goes.have_run.as_one before come)

-- a stream that was given up in a turn, or when its savepoint was written
pub given-up-in : (terms : Terms) (begin : StreamState) (faults : Faults) (left : Left)
    (why : Fault) → IsGivenUp terms.names faults left.shelf.faults why
    → GoesAndStops terms.names begin.stream begin.files left.shelf.files
    → IsLeftBy terms begin faults left (stream.Call why)
given-up-in terms begin faults left why cause stops = inl (cause, stops)

-- a stream whose input has a fault
pub ends-by : (terms : Terms) (begin : StreamState) (faults : Faults) (left : Left) (why : Fault)
    (last : Stream) (files : Option Files) (mid : StreamInputs)
    → HasTakenTurn terms.names (fed_of begin.inputs.reader) [] begin (Some (end.Fault why))
    (at last files mid left.tap)
    → IsKnownTo mid.known.requests last → AreKept mid left.inputs
    → (saved : IsSavedAt terms last left.inputs.books files left.shelf.files)
    × IsBooked saved.goes.written mid.books left.inputs.books
    → IsLeftBy terms begin faults left (stream.Call why)
ends-by terms begin faults left why last files mid took known kept (saved, booked) =
    inr (inl (record {
      fault = why;
      why_is = refl;
      turned = record { stream = last; files = files; inputs = mid; took = took };
      is_saved = saved;
      kept = kept;
      booked = booked;
      known = known-kept mid left.inputs last kept known;
    }))

-- a stream all of whose input was taken, and that isn't ended
pub ends-not : (terms : Terms) (begin : StreamState) (faults : Faults) (left : Left)
    (why : StreamFault) (last : Stream) (shelf : ShelfState) (mid : StreamInputs)
    → HasTakenTurn terms.names (fed_of begin.inputs.reader) [] begin (Some end.Input)
    (at last shelf.files mid left.tap) → shelf.faults.writes ≡ faults.writes
    → AreKept mid left.inputs → IsUnended terms last shelf left.shelf left.inputs why
    → IsLeftBy terms begin faults left why
ends-not terms begin faults left why last shelf mid took writes kept un =
    inr (inr (record {
      turned = record { stream = last; files = shelf.files; inputs = mid; took = took };
      shelf = shelf;
      files_are = refl;
      writes = writes;
      kept = kept;
      unended = un;
    }))
