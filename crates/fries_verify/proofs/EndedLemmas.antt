-- A whole stream is one run, and its parts are told in turn.
use Rattle.std.proofs.Common.{◌≡◌, ◌∙◌, ◌≤◌, ◌+◌, ◌++◌, ℕ, zero, suc, List, [], ◌∷◌, All, None}
use Rattle.std.proofs.Common.{Option}
use Rattle.std.proofs.Common.{Some, ap, ap₂}
use Rattle.std.proofs.Common.{append_assoc, arith, drop, length, map, min, refl, slice_get}
use Rattle.std.proofs.Common.{slice_range, subst, sym}
use Rattle.std.specs.List.{flat_map}
use Rattle.std.proofs.Math.Seq.{drop-append_seam}
use Rattle.std.proofs.lemmas.List.{length-append, length-map}
use Rattle.std.proofs.lemmas.List.Elements.{All-nil}
use Rattle.std.proofs.lemmas.Option.{same_Some}
use Rattle.jobs.specs.JobView.{JobView}
use Rattle.keyed_state.specs.Counts.{Counts}
use Rattle.sink_journal.specs.Audit.{audit_records}
use Rattle.sink_journal.specs.declared.audit.Noted.{Noted}
use Rattle.sink_journal.specs.declared.journal.Entry.{Entry}
use Rattle.sink_journal.specs.declared.journal.Feed.{Feed}
use Rattle.tuple_trace.specs.declared.row.Row.{Row}
use Rattle.versions.specs.Kept.{AreInOrder}
use Rattle.versions.specs.declared.request.Request.{Request}
use Rattle.coordinator.specs.Feeding.{issue_rows}
use Rattle.coordinator.proofs.Rests.{rising}
use Rattle.flow_model.specs.Begin.{Begin, at_first}
use Rattle.flow_model.specs.Feeding.{feed_from}
use Rattle.flow_model.specs.Requests.{afters}
use Rattle.flow_model.specs.Run.{IsRun, IsRunFrom, IsRunSince, Ran, ran_as}
use Rattle.flow_model.specs.Setup.{setup_view}
use Rattle.flow_model.specs.SetupView.{SetupView}
use Rattle.flow_model.specs.declared.setup.Setup.{Setup}
use Rattle.flow_model.specs.Waiting.{waiting_for, with_afters}
use Rattle.flow_model.proofs.WaitingLemmas.{length_waiting}
use Rattle.audit_laws.specs.Part.{uncounted}
use Rattle.audit_live.specs.Live.{IsRunLive}
use Rattle.fries_lines.specs.Lines.{noted}
use Rattle.stream_law.specs.Stream.{SoFar}
use Rattle.stream_law.proofs.BeforeLemmas.{run_of_others}
use Rattle.stream_replay.specs.InParts.{Given, PartStart, Records, first_start}
use Rattle.stream_replay.specs.Runs.{PartEnd, RunInTurn, start_past, start_past_all}
use Rattle.audit_stream.specs.Told.{PartTold, parts_records, told_in_all}
use Rattle.fries_verify.specs.Streams.{IsStreamOf, given_live, told_records, told_in_turn}
use Rattle.fries_verify.specs.Streams.{told_last, told_of}
use Rattle.stream_run.specs.Growing.{Ended, rows_in}
use Rattle.stream_run.specs.Parts.{AreRunInTurn, Front, Part, front_after, front_of}
use Rattle.stream_run.specs.Parts.{with_all}
use Rattle.stream_run.specs.Parts.{with_one}
use Rattle.fries_verify.specs.Whole.{IsAskedOf, IsWholeStream, WholeStream, ended_records}
use Rattle.fries_verify.specs.Whole.{ended_parts}
use Rattle.fries_verify.specs.Whole.{ended_refused, run_of, setup_of, whole_records}
use Rattle.fries_verify.proofs.CapLemmas.{cap_from, waits_again}
use Rattle.flow_engine.proofs.Moving.{afters_are}
use Rattle.audit_live.proofs.FeedLemmas.{issues_in_order, of_those as capped}
use Rattle.fries_verify.proofs.MovedLemmas.{run_moved}
use Rattle.fries_verify.proofs.OneRunLemmas.{all_refused, one_run, slice_is}
use Rattle.fries_verify.proofs.WholeLemmas.{Begins, IsBehind, IsHere, begins_extended, begins_turn}
use Rattle.fries_verify.proofs.WholeLemmas.{end_of}
use Rattle.fries_verify.proofs.WholeLemmas.{ends_of, given, made_plans, turns}

get_capped : (rows : ℕ) (xs : List ℕ) (k w : ℕ) → slice_get (capped rows xs) k ≡ Some w
    → (x : ℕ) × (slice_get xs k ≡ Some x) × (min x rows ≡ w)
get_capped rows [] k w g = absurd (cc)
get_capped rows (x ∷ xs) zero w g = (x, refl, same_Some (min x rows) w g)
get_capped rows (x ∷ xs) (suc k) w g = get_capped rows xs k w g

row_after : (parts : List Part) (front last : Front) → AreRunInTurn front parts last
    → last.start.row ≡ front.start.row + length (rows_in parts)
row_after [] front last is =
    let none : front.start.row ≡ front.start.row + 0 = omega arith in
    ap (λ (f : Front). f.start.row) is ∙ none
row_after (part ∷ later) front last is =
    let rest = row_after later (front_after front part) last is.1 in
    omega (arith, rest, length-append part.rows (rows_in later))

abbrev told_as : List Noted → List Feed → List (List Entry) → List Counts → PartTold
told_as refused feeds journals states =
    record { refused = refused; feeds = feeds; journals = journals; states = states }

-- ---- all that was run

run_setup : (before : Option SoFar) (part : Part)
    → (with_one before part).setup ≡ setup_view part.setup
run_setup None part = refl
run_setup (Some so_far) part = refl

rows_after : (parts : List Part) (so_far : SoFar) (last : Part) → last.rows ≡ []
    → (with_one (with_all (Some so_far) parts) last).rows ≡ so_far.rows ++ rows_in parts
rows_after [] so_far last none = ap (λ (l : List Row). so_far.rows ++ l) none
rows_after (part ∷ later) so_far last none =
    rows_after later (with_one (Some so_far) part) last none
    ∙ append_assoc so_far.rows part.rows (rows_in later)

run_rows : (parts : List Part) (last : Part) → last.rows ≡ []
    → (with_one (with_all None parts) last).rows ≡ rows_in parts
run_rows [] last none = none
run_rows (part ∷ later) last none = rows_after later (with_one None part) last none

-- a stream of these rows, and the setup with its requests as they were asked
module _ (setup : Setup) (rows : List Row) (stream : WholeStream) (is : IsWholeStream rows stream)
    (is_asked : IsAskedOf setup rows stream)
    (in_order : AreInOrder 0 (setup_of stream).requests) where
  abbrev asked : SetupView
  asked = setup_view setup

  abbrev refused : List Noted
  refused = map noted setup.judged.refused

  refused_is : ended_refused stream.ended ++ stream.last.refused ≡ refused
  refused_is = is_asked.refused

  abbrev own : SetupView
  own = setup_of stream

  abbrev count : ℕ
  count = length rows

  abbrev capped_waits : List ℕ
  capped_waits = capped count (afters own.requests)

  abbrev live : SetupView
  live = waiting_for capped_waits own

  abbrev left : Ran
  left = (run_of stream).ran

  -- as one run
  abbrev pub ran : Ran
  ran = ran_as live left.feeds left.journals left.states

  each_wait : length capped_waits ≡ length own.requests
  each_wait =
      length-map (afters own.requests) (λ (after : ℕ). min after count)
      ∙ length-map own.requests (λ (q : Request). q.after)

  one_is : IsRun own rows left
  one_is =
      subst (λ (l : List Row). IsRun own l left)
      (run_rows (ended_parts stream.ended) stream.last.part is.no_row ∙ is.rows_are)
      (subst (λ (s : SetupView). IsRun s (run_of stream).rows left)
      (run_setup (with_all None (ended_parts stream.ended)) stream.last.part) is.one_run)

  left_own : IsRunFrom (at_first own) rows (ran_as own left.feeds left.journals left.states)
  left_own =
      subst (IsRunFrom (at_first own) rows)
      (ap (λ (s : SetupView). ran_as s left.feeds left.journals left.states) one_is.setup_is)
      one_is.run

  same_feed : (row turned : ℕ) → feed_from row turned (afters live.requests) count
      ≡ feed_from row turned (afters own.requests) count
  same_feed row turned =
      ap (λ (l : List ℕ). feed_from row turned l count)
      (afters_are capped_waits own.requests each_wait)
      ∙ cap_from row turned (afters own.requests) count

  run_is : IsRun live rows ran
  run_is =
      run_moved own capped_waits (at_first own) rows left.feeds left.journals left.states
      (same_feed 0 0) left_own

  issued_are : issue_rows 0 ran.feeds ≡ capped_waits
  issued_are =
      ap (issue_rows 0) left_own.feed
      ∙ issues_in_order count (afters own.requests) (rising 0 own.requests in_order)

  asked_many : length asked.requests ≡ length own.requests
  asked_many =
      ap (λ (s : SetupView). length s.requests) is_asked.asked
      ∙ length_waiting (afters asked.requests) own.requests

  live_is : waiting_for (issue_rows 0 ran.feeds) asked ≡ live
  live_is =
      ap (λ (l : List ℕ). waiting_for l asked) issued_are
      ∙ (ap (waiting_for capped_waits) is_asked.asked
      ∙ ap (λ (l : List Request). record own { requests = l })
      (waits_again capped_waits (afters asked.requests) own.requests each_wait
      (length-map asked.requests (λ (q : Request). q.after) ∙ asked_many)))

  pub is_live : IsRunLive asked rows ran
  is_live = record {
    run = subst (λ (s : SetupView). IsRun s rows ran) (sym live_is) run_is;
    not_early = λ place after waited g h.
        let waits_are : afters (with_afters (issue_rows 0 ran.feeds) asked.requests)
        ≡ capped_waits =
        ap (λ (l : List ℕ). afters (with_afters l asked.requests)) issued_are
        ∙ afters_are capped_waits asked.requests (each_wait ∙ sym asked_many) in
        let found = get_capped count (afters own.requests) place waited
        (ap (λ (l : List ℕ). slice_get l place) (sym waits_are) ∙ h) in
        let early : min after count ≤ found.0 = is_asked.not_early place after found.0 g found.1 in
        omega (arith, early, found.2);
  }

  given_is : given_live setup rows ran ≡ given own rows refused
  given_is =
      ap (λ (s : SetupView). record { setup = s; refused = refused; rows = rows }) live_is

  -- ---- in parts

  abbrev begin : Front
  begin = front_of stream.begin

  abbrev front : Front
  front = front_of stream.stream

  up_to_last : Begins begin.setup front.setup × (length front.setup.plans
      ≡ length front.setup.requests)
  up_to_last =
      begins_turn (ended_parts stream.ended) begin front (made_plans stream.begin.setup)
      is.have_run.in_turn

  to_end : Begins front.setup own
  to_end =
      begins_extended front.setup own is.requests is.last.followed.plans up_to_last.1
      is.last.followed.extended_is

  same_job : begin.setup.job ≡ own.job
  same_job =
      sym (ap (λ (s : SetupView). s.job) up_to_last.0.first_is)
      ∙ sym (ap (λ (s : SetupView). s.job) to_end.first_is)

  abbrev parts_given : Given
  parts_given = given own rows refused

  abbrev pub ends : List PartEnd
  ends = ends_of 0 begin.start.row stream.ended

  here : IsHere own rows refused begin (first_start parts_given) [] []
  here = record {
    begin_is =
        ap (λ (j : JobView). at_first (record own { job = j })) (sym same_job) ∙ sym is.first;
    told_is = refl;
    row_is = sym (ap (λ (b : Begin). b.row) is.first);
    turned_is =
        ap (λ (b : Begin). b.turned) is.first
        ∙ sym (ap (λ (l : List Request). length l) is.none);
    due =
        subst (λ (l : List Request). All (λ after. after ≤ begin.start.row) (afters l))
        (sym is.none) (All-nil (λ after. after ≤ begin.start.row));
    plans = made_plans stream.begin.setup;
  }

  in_parts : RunInTurn parts_given (first_start parts_given) ends
      × IsBehind own rows refused stream.ended
      (start_past_all (first_start parts_given) ends) front []
  in_parts =
      turns own rows refused stream.ended begin front (first_start parts_given) [] []
      stream.last.refused here (sym is.rows_are) (sym refused_is) to_end is.have_run.in_turn

  -- ---- the last part

  abbrev end : Ran
  end = stream.last.part.left

  abbrev pub last_left : Ran
  last_left = ran_as live end.feeds end.journals end.states

  abbrev behind : PartStart
  behind = start_past_all (first_start parts_given) ends

  all_fed : front.start.row ≡ length rows
  all_fed =
      let fed = row_after (ended_parts stream.ended) begin front is.have_run.in_turn in
      let none : begin.start.row ≡ 0 = ap (λ (b : Begin). b.row) is.first in
      let all : length (rows_in (ended_parts stream.ended)) ≡ length rows =
      ap (λ (l : List Row). length l) is.rows_are in
      omega (arith, fed, all, none)

  beyond : {A : Type 0} (n : ℕ) (xs : List A) → length xs ≡ n → drop n xs ≡ []
  beyond zero [] e = refl
  beyond zero (x ∷ xs) e = absurd (omega (arith, e))
  beyond (suc n) [] e = refl
  beyond (suc n) (x ∷ xs) e = beyond n xs (omega (arith, e))

  last_own : IsRunFrom front.start rows (ran_as own end.feeds end.journals end.states)
  last_own =
      subst (IsRunFrom front.start rows)
      (ap (λ (s : SetupView). ran_as s end.feeds end.journals end.states) is.last.run.setup_is)
      (run_of_others front.start is.others rows end
      (sym all_fed ∙ sym is.as_many)
      (beyond front.start.row rows (sym all_fed)
      ∙ sym (beyond front.start.row is.others is.as_many)) is.last.run.run)

  last_run : IsRunSince behind.begin live rows last_left
  last_run =
      subst (λ (b : Begin). IsRunSince b live rows last_left) (sym in_parts.1.begin_is)
      (run_moved own capped_waits front.start rows end.feeds end.journals end.states
      (same_feed front.start.row front.start.turned) last_own)

  -- ---- all parts as one run

  abbrev tolds : List PartTold
  tolds = told_in_turn parts_given (first_start parts_given) ends

  abbrev end_told : PartTold
  end_told = told_last parts_given behind last_left

  all_told : refused ≡ ended_refused stream.ended ++ stream.last.refused
  all_told = sym refused_is

  end_refused : end_told.refused ≡ stream.last.refused
  end_refused =
      ap (λ k. drop k refused) in_parts.1.told_is
      ∙ (ap (drop (length (ended_refused stream.ended))) all_told
      ∙ drop-append_seam (ended_refused stream.ended) stream.last.refused)

  as_one : told_in_all tolds end_told ≡ told_of refused ran
  as_one =
      let one = one_run parts_given stream.ended (first_start parts_given) 0 begin.start.row
      stream.last.part
      end_told (record { tells = record { feeds = refl; journals = refl }; states = refl }) in
      let all : PartTold = told_in_all tolds end_told in
      ap (λ (r : List Noted). told_as r all.feeds all.journals all.states)
      (all_refused parts_given stream.ended (first_start parts_given) begin.start.row
      stream.last.refused
      end_told end_refused refl all_told)
      ∙ (ap (λ (f : List Feed). told_as refused f all.journals all.states) one.tells.feeds
      ∙ (ap (λ (j : List (List Entry)). told_as refused left.feeds j all.states)
      one.tells.journals
      ∙ ap (λ (c : List Counts). told_as refused left.feeds left.journals c) one.states))

  stream_is : IsStreamOf parts_given ends last_left ran
  stream_is = record { in_turn = in_parts.0; last = last_run; as_one = as_one }

  pub is_stream : IsStreamOf (given_live setup rows ran) ends last_left ran
  is_stream = subst (λ (g : Given). IsStreamOf g ends last_left ran) (sym given_is) stream_is

  -- ---- the records

  told_same : (job : JobView) (ended : List Ended) (before last : Front) (start : PartStart)
      (row : ℕ) (told post : List Noted) → Begins last.setup own → own.job ≡ job
      → start.told ≡ length told → refused ≡ told ++ (ended_refused ended ++ post)
      → AreRunInTurn before (ended_parts ended) last
      → parts_records job (told_in_turn parts_given start (ends_of start.told row ended))
      ≡ flat_map ended_records ended
  told_same job [] before last start row told post begins job_is at are turn = refl
  told_same job (e ∷ later) before last start row told post begins job_is at are turn =
      let rest = begins_turn (ended_parts later) (front_after before e.part) last
      (made_plans e.part.setup) turn.1 in
      let own_job : e.part.left.setup.job ≡ job =
      ap (λ (s : SetupView). s.job) turn.0.run.setup_is
      ∙ (sym (ap (λ (s : SetupView). s.job) rest.0.first_is)
      ∙ (sym (ap (λ (s : SetupView). s.job) begins.first_is) ∙ job_is)) in
      let here_are : refused ≡ told ++ (e.refused ++ (ended_refused later ++ post)) =
      are
      ∙ ap (λ (l : List Noted). told ++ l) (append_assoc e.refused (ended_refused later) post) in
      let mine : slice_range refused start.told (start.told + length e.refused) ≡ e.refused =
      slice_is parts_given told e.refused (ended_refused later ++ post) here_are start.told
      (start.told + length e.refused) at refl in
      ap₂ (λ (x y : Records). x ++ y)
      (ap (λ (j : JobView). audit_records j
      (slice_range refused start.told (start.told + length e.refused)) e.part.left.feeds
      e.part.left.journals (uncounted e.part.left).states) (sym own_job)
      ∙ ap (λ (r : List Noted). audit_records e.part.left.setup.job r e.part.left.feeds
      e.part.left.journals (uncounted e.part.left).states) mine)
      (told_same job later (front_after before e.part) last
      (start_past (end_of start.told row e)) (row + length e.part.rows) (told ++ e.refused) post
      begins job_is (omega (arith, at, length-append told e.refused))
      (here_are ∙ sym (append_assoc told e.refused (ended_refused later ++ post))) turn.1)

  pub records_are : (job : JobView) → own.job ≡ job
      → whole_records stream
      ≡ told_records job (given_live setup rows ran) ends last_left
  records_are job job_is =
      ap₂ (λ (x y : Records). x ++ y)
      (sym (told_same job stream.ended begin front (first_start parts_given) begin.start.row []
      stream.last.refused to_end job_is refl all_told is.have_run.in_turn))
      (ap (λ (r : List Noted). audit_records end.setup.job r end.feeds end.journals end.states)
      (sym end_refused)
      ∙ ap (λ (j : JobView). audit_records j end_told.refused end.feeds end.journals end.states)
      (ap (λ (s : SetupView). s.job) is.last.run.setup_is ∙ job_is))
      ∙ ap (λ (g : Given). told_records job g ends last_left) (sym given_is)
