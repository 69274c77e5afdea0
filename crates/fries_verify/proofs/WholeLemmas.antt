-- The parts of a whole stream, seen by the setup of one run of it.
use Rattle.std.proofs.Common.{◌≡◌, ◌∙◌, ◌≤◌, ◌+◌, ◌++◌, ℕ, List, [], ◌∷◌, All, ap}
use Rattle.std.proofs.Common.{append-nil}
use Rattle.std.proofs.Common.{append_assoc, arith, drop, length, subst, sym}
use Rattle.std.proofs.Common.{take}
use Rattle.std.proofs.Math.Seq.{drop-append_seam, take-append_seam}
use Rattle.std.proofs.lemmas.List.{length-append, map-append, take-map}
use Rattle.std.proofs.lemmas.List.Elements.{All-append, All-cons, All-head, All-nil, All-tail}
use Rattle.cover_planner.specs.declared.cover.Plan.{Plan}
use Rattle.keyed_state.specs.Counts.{Counts}
use Rattle.sink_journal.specs.declared.audit.Noted.{Noted}
use Rattle.tuple_trace.specs.declared.row.Row.{Row}
use Rattle.versions.specs.declared.request.Request.{Request}
use Rattle.flow_model.specs.Begin.{Begin}
use Rattle.flow_model.specs.Planned.{extended}
use Rattle.flow_model.specs.Requests.{afters}
use Rattle.flow_model.specs.Run.{IsRunFrom, IsRunSince}
use Rattle.flow_model.specs.Setup.{setup_view}
use Rattle.flow_model.specs.SetupView.{SetupView}
use Rattle.flow_model.specs.Waiting.{waiting_for, with_afters}
use Rattle.flow_model.specs.declared.setup.Setup.{Setup}
use Rattle.flow_model.proofs.PlannedLemmas.{has_covers}
use Rattle.flow_model.proofs.WaitingLemmas.{length_waiting}
use Rattle.savepoint.specs.Parts.{first_of}
use Rattle.savepoint.proofs.CutLemmas.{all_first}
use Rattle.stream_law.proofs.BeforeLemmas.{run_of_others}
use Rattle.stream_law.proofs.ExtendedLemmas.{first_extended}
use Rattle.stream_replay.specs.InParts.{Given, PartStart}
use Rattle.stream_replay.specs.Runs.{PartEnd, RunInTurn, RunsTo, start_past, start_past_all}
use Rattle.stream_run.specs.Growing.{Ended, rows_in}
use Rattle.stream_run.specs.Parts.{AreRunInTurn, Front, IsRunAt, Part, front_after}
use Rattle.fries_verify.specs.Whole.{ended_parts, ended_refused}
use Rattle.audit_live.proofs.FeedLemmas.{of_those as capped}
use Rattle.fries_verify.proofs.CapLemmas.{due_capped, first_first, own_waits, take_waits}

-- ---- setups along the parts

-- a setup has a plan for each request
abbrev pub HasPlans : SetupView → Type 0
HasPlans setup = length setup.plans ≡ length setup.requests

pub made_plans : (setup : Setup) → HasPlans (setup_view setup)
made_plans setup = (has_covers (setup_view setup) setup.planned).one_each

-- the first setup begins the second
pub record Begins (first second : SetupView) : Type 0 where
  pub first_is : first_of second (length first.requests) ≡ first
  pub fewer : length first.requests ≤ length second.requests

pub begins_extended : (first second : SetupView) (requests : List Request) (plans : List Plan)
    → HasPlans first → second ≡ extended first requests plans → Begins first second
begins_extended first second requests plans each is = record {
  first_is =
      ap (λ (s : SetupView). first_of s (length first.requests)) is
      ∙ first_extended first requests plans each;
  fewer =
      let many : length second.requests ≡ length (first.requests ++ requests) =
      ap (λ (s : SetupView). length s.requests) is in
      omega (arith, many, length-append first.requests requests);
}

pub begins_then : (a b c : SetupView) → Begins a b → Begins b c → Begins a c
begins_then a b c f g = record {
  first_is =
      sym (first_first c (length a.requests) (length b.requests) f.fewer)
      ∙ (ap (λ (s : SetupView). first_of s (length a.requests)) g.first_is ∙ f.first_is);
  fewer = omega (arith, f.fewer, g.fewer);
}

pub begins_turn : (parts : List Part) (front last : Front) → HasPlans front.setup
    → AreRunInTurn front parts last → Begins front.setup last.setup × HasPlans last.setup
begins_turn [] front last each is =
    subst (λ (f : Front). Begins front.setup f.setup × HasPlans f.setup) (sym is)
    (record { first_is = all_first front.setup each; fewer = omega arith }, each)
begins_turn (part ∷ later) front last each is =
    let here = begins_extended front.setup (setup_view part.setup) is.0.requests
    is.0.followed.plans each is.0.followed.extended_is in
    let rest = begins_turn later (front_after front part) last (made_plans part.setup) is.1 in
    (begins_then front.setup (setup_view part.setup) last.setup here rest.0, rest.1)

-- ---- the parts

-- where a part ends that begins behind this row, with so many refused requests told
abbrev pub end_of : ℕ → ℕ → Ended → PartEnd
end_of told row e = record {
  row = row + length e.part.rows;
  turned = length (setup_view e.part.setup).requests;
  told = told + length e.refused;
  left = e.part.left;
}

-- where each of these parts ends
abbrev pub ends_of : ℕ → ℕ → List Ended → List PartEnd
ends_of told row [] = []
ends_of told row (e ∷ later) =
    end_of told row e ∷ ends_of (told + length e.refused) (row + length e.part.rows) later

abbrev begin_as : ℕ → ℕ → List Counts → Begin
begin_as row turned states = record { row = row; turned = turned; states = states }

-- what all parts are of: the last setup with waits that are capped, all rows and refused requests
module _ (setup : SetupView) (rows : List Row) (refused : List Noted) where
  abbrev pub waits : List ℕ
  waits = capped (length rows) (afters setup.requests)

  abbrev pub given : Given
  given = record { setup = waiting_for waits setup; refused = refused; rows = rows }

  -- the first of its requests, if all of them are due
  first_given : (first : SetupView) (row : ℕ) → Begins first setup → row ≤ length rows
      → All (λ after. after ≤ row) (afters first.requests)
      → first_of given.setup (length first.requests) ≡ first
  first_given first row begins le due =
      let k : ℕ = length first.requests in
      let own : take k setup.requests ≡ first.requests =
      ap (λ (s : SetupView). s.requests) begins.first_is in
      let few : take k waits ≡ afters first.requests =
      take-map (λ (after : ℕ). _) k (afters setup.requests)
      ∙ (ap (capped (length rows)) (take-map (λ (q : Request). q.after) k setup.requests
      ∙ ap afters own)
      ∙ due_capped row (length rows) (afters first.requests) le due) in
      let same : take k (with_afters waits setup.requests) ≡ first.requests =
      take_waits k waits setup.requests
      ∙ (ap (λ (l : List ℕ). with_afters l (take k setup.requests)) few
      ∙ (ap (with_afters (afters first.requests)) own ∙ own_waits first.requests)) in
      ap (λ (l : List Request). record setup { requests = l; plans = take k setup.plans }) same
      ∙ (ap (λ (l : List Request). record setup { requests = l; plans = take k setup.plans })
      (sym own) ∙ begins.first_is)

  -- ---- one part

  of_afters : (row : ℕ) (requests : List Request) → All (λ after. after ≤ row) (afters requests)
      → All (λ (q : Request). q.after ≤ row) requests
  of_afters row [] due = All-nil (λ (q : Request). q.after ≤ row)
  of_afters row (q ∷ requests) due =
      All-cons (λ (q : Request). q.after ≤ row) q requests
      (All-head (λ after. after ≤ row) q.after (afters requests) due)
      (of_afters row requests (All-tail (λ after. after ≤ row) q.after (afters requests) due))

  later_due : (row more : ℕ) (waits : List ℕ) → All (λ after. after ≤ row) waits
      → All (λ after. after ≤ row + more) waits
  later_due row more [] due = All-nil (λ after. after ≤ row + more)
  later_due row more (x ∷ waits) due =
      let here : x ≤ row = All-head (λ after. after ≤ row) x waits due in
      All-cons (λ after. after ≤ row + more) x waits (omega arith)
      (later_due row more waits (All-tail (λ after. after ≤ row) x waits due))

  -- a part from this front on, with these rows before it and these refused requests told
  pub record IsHere (front : Front) (start : PartStart) (pre : List Row) (told : List Noted)
      : Type 0 where
    pub begin_is : start.begin ≡ front.start
    pub told_is : start.told ≡ length told
    pub row_is : length pre ≡ front.start.row
    pub turned_is : front.start.turned ≡ length front.setup.requests
    pub due : All (λ after. after ≤ front.start.row) (afters front.setup.requests)
    pub plans : HasPlans front.setup

  module _ (front : Front) (start : PartStart) (pre more : List Row) (told post : List Noted)
      (e : Ended) (here : IsHere front start pre told) (at : IsRunAt front e.part)
      (rows_are : rows ≡ pre ++ (e.part.rows ++ more))
      (refused_are : refused ≡ told ++ (e.refused ++ post))
      (begins : Begins (setup_view e.part.setup) setup) where
    abbrev own : SetupView
    own = setup_view e.part.setup

    abbrev last_row : ℕ
    last_row = front.start.row + length e.part.rows

    within : last_row ≤ length rows
    within =
        let many : length rows ≡ length (pre ++ (e.part.rows ++ more)) =
        ap (λ (l : List Row). length l) rows_are in
        omega (
          arith,
          many,
          length-append pre (e.part.rows ++ more),
          length-append e.part.rows more,
          here.row_is,
        )

    part_due : All (λ after. after ≤ last_row) (afters own.requests)
    part_due =
        let are : own.requests ≡ front.setup.requests ++ at.requests =
        ap (λ (s : SetupView). s.requests) at.followed.extended_is in
        let both : afters own.requests ≡ afters front.setup.requests ++ afters at.requests =
        ap afters are
        ∙ map-append (λ (q : Request). q.after) front.setup.requests at.requests in
        subst (All (λ after. after ≤ last_row)) (sym both)
        (All-append (λ after. after ≤ last_row) (afters front.setup.requests) (afters at.requests)
        (later_due front.start.row (length e.part.rows) (afters front.setup.requests) here.due)
        at.due)

    first_is : first_of given.setup (length own.requests) ≡ own
    first_is = first_given own last_row begins within part_due

    up_to : take last_row rows ≡ pre ++ e.part.rows
    up_to =
        let many : length (pre ++ e.part.rows) ≡ last_row =
        omega (arith, length-append pre e.part.rows, here.row_is) in
        ap (take last_row) (rows_are ∙ sym (append_assoc pre e.part.rows more))
        ∙ (ap (λ k. take k ((pre ++ e.part.rows) ++ more)) (sym many)
        ∙ take-append_seam (pre ++ e.part.rows) more)

    behind : (others : List Row) → length others ≡ front.start.row
        → drop front.start.row (others ++ e.part.rows) ≡ e.part.rows
    behind others many =
        ap (λ k. drop k (others ++ e.part.rows)) (sym many) ∙ drop-append_seam others e.part.rows

    ran : IsRunSince front.start own (take last_row rows) e.part.left
    ran = record {
      setup_is = at.run.setup_is;
      run =
          subst (λ (l : List Row). IsRunFrom front.start l e.part.left) (sym up_to)
          (run_of_others front.start (at.others ++ e.part.rows) (pre ++ e.part.rows) e.part.left
          (omega (
            arith,
            length-append pre e.part.rows,
            length-append at.others e.part.rows,
            here.row_is,
            at.as_many,
          ))
          (behind pre here.row_is ∙ sym (behind at.others at.as_many)) at.run.run);
    }

    runs_to : RunsTo given start (end_of start.told front.start.row e)
    runs_to =
        let rows_before : start.begin.row ≡ front.start.row =
        ap (λ (b : Begin). b.row) here.begin_is in
        let turned_before : start.begin.turned ≡ front.start.turned =
        ap (λ (b : Begin). b.turned) here.begin_is in
        let many : length own.requests ≡ length (front.setup.requests ++ at.requests) =
        ap (λ (s : SetupView). length s.requests) at.followed.extended_is in
        let all : length given.setup.requests ≡ length setup.requests =
        length_waiting waits setup.requests in
        let noted : length refused ≡ length (told ++ (e.refused ++ post)) =
        ap (λ (l : List Noted). length l) refused_are in
        record {
          row = omega (arith, rows_before);
          fed = within;
          turned = omega (
            arith,
            turned_before,
            here.turned_is,
            many,
            length-append front.setup.requests at.requests,
          );
          issued = omega (arith, all, begins.fewer);
          due =
              subst (All (λ (q : Request). q.after ≤ last_row))
              (sym (ap (λ (s : SetupView). s.requests) first_is))
              (of_afters last_row own.requests part_due);
          told = omega arith;
          refused = omega (
            arith,
            here.told_is,
            noted,
            length-append told (e.refused ++ post),
            length-append e.refused post,
          );
          run =
              subst (λ (b : Begin). IsRunSince b (first_of given.setup (length own.requests))
              (take last_row rows) e.part.left) (sym here.begin_is)
              (subst (λ (s : SetupView). IsRunSince front.start s (take last_row rows) e.part.left)
              (sym first_is) ran);
        }

    next : IsHere (front_after front e.part) (start_past (end_of start.told front.start.row e))
        (pre ++ e.part.rows) (told ++ e.refused)
    next =
        let same : length e.part.left.setup.requests ≡ length own.requests =
        ap (λ (s : SetupView). length s.requests) at.run.setup_is in
        record {
          begin_is =
              ap (λ k. begin_as last_row k e.part.left.states) (sym same);
          told_is = omega (arith, here.told_is, length-append told e.refused);
          row_is = omega (arith, here.row_is, length-append pre e.part.rows);
          turned_is = same;
          due = part_due;
          plans = made_plans e.part.setup;
        }

  -- ---- all parts

  -- where the last part begins
  pub record IsBehind (ended : List Ended) (last_start : PartStart) (last : Front)
      (told : List Noted) : Type 0 where
    pub begin_is : last_start.begin ≡ last.start
    pub told_is : last_start.told ≡ length (told ++ ended_refused ended)

  pub turns : (ended : List Ended) (front last : Front) (start : PartStart) (pre : List Row)
      (told post : List Noted) → IsHere front start pre told
      → rows ≡ pre ++ rows_in (ended_parts ended) → refused ≡ told ++ (ended_refused ended ++ post)
      → Begins last.setup setup → AreRunInTurn front (ended_parts ended) last
      → RunInTurn given start (ends_of start.told front.start.row ended)
      × IsBehind ended (start_past_all start (ends_of start.told front.start.row ended))
      last told
  turns [] front last start pre told post here rows_are refused_are begins is = (
    tt,
    record {
      begin_is = here.begin_is ∙ ap (λ (f : Front). f.start) (sym is);
      told_is = here.told_is ∙ ap (λ (l : List Noted). length l) (sym (append-nil told));
    },
  )
  turns (e ∷ later) front last start pre told post here rows_are refused_are begins is =
      let own_begins : Begins (setup_view e.part.setup) setup =
      begins_then (setup_view e.part.setup) last.setup setup
      (begins_turn (ended_parts later) (front_after front e.part) last (made_plans e.part.setup)
      is.1).0 begins in
      let own_refused : refused ≡ told ++ (e.refused ++ (ended_refused later ++ post)) =
      refused_are
      ∙ ap (λ (l : List Noted). told ++ l) (append_assoc e.refused (ended_refused later) post) in
      let rest =
      turns later (front_after front e.part) last
      (start_past (end_of start.told front.start.row e)) (pre ++ e.part.rows) (told ++ e.refused)
      post
      (next front start pre (rows_in (ended_parts later)) told (ended_refused later ++ post) e here
      is.0
      rows_are own_refused own_begins)
      (rows_are ∙ sym (append_assoc pre e.part.rows (rows_in (ended_parts later))))
      (own_refused ∙ sym (append_assoc told e.refused (ended_refused later ++ post))) begins is.1
      in (
        (
          runs_to front start pre (rows_in (ended_parts later)) told (ended_refused later ++ post) e
              here is.0 rows_are own_refused own_begins,
          rest.0,
        ),
        record {
          begin_is = rest.1.begin_is;
          told_is =
              rest.1.told_is
              ∙ ap (λ (l : List Noted). length l)
              (append_assoc told e.refused (ended_refused later));
        },
      )
