-- The two parts of the worked run, worker by worker and lane by lane.
use Rattle.std.proofs.Common.{◌≡◌, ◌∙◌, ◌≤◌, All, ℕ, zero, suc, [], ◌∷◌, min, refl, ap, sym, subst, lit≤, arith, slice_get}
use Rattle.std.specs.Prelude.{option_map}
use Rattle.std.proofs.lemmas.List.Elements.{All-from_recursion, recursion_from_All}
use Rattle.tuple_trace.specs.Rows.{AreRows, IsRow}
use Rattle.flow_model.specs.Begin.{Begin, at_first}
use Rattle.flow_model.specs.Lanes.{lanes}
use Rattle.flow_model.specs.declared.topology.Lane.{Lane}
use Rattle.flow_model.specs.Replay.{shown}
use Rattle.flow_model.specs.Requests.{afters}
use Rattle.flow_model.specs.Run.{IsRunFrom, IsRunSince, IsWorked, put_by}
use Rattle.flow_model.specs.Setup.{setup_view}
use Rattle.flow_model.specs.SetupView.{SetupView}
use Rattle.flow_model.specs.Workers.{workers_in}
use Rattle.flow_model.specs.declared.setup.Setup.{Setup}
use Rattle.flow_model.proofs.EachLemmas.{OfEach, OfEachLane, Worked, of_each-gets, of_each_lane-gets, run-by_parts}
use Rattle.flow_model.proofs.LawChecks.{finished-by_check}
use Rattle.savepoint.specs.Parts.{first_of, joined, start_of}
use Rattle.savepoint.specs.TwoHalves.{counted_row, tallied, tally_setup, two_named_rows, whole}
use Rattle.stream_law.specs.LateRequest.{early_half, early_so_far, late_half, late_part, unlifted}
use Rattle.stream_law.specs.Stream.{IsNextPart, IsRunSoFar}
use Rattle.savepoint.proofs.ExampleLemmas.{none_yet, one_yet}

early_worked : OfEach (Worked (first_of tally_setup 0)) (workers_in tallied) (at_first tally_setup).states early_half.journals early_half.states
early_worked = (
  record { finished = finished-by_check _ _ refl; state_is = rw none_yet refl },
  (record { finished = finished-by_check _ _ refl; state_is = refl }, tt),
)

pub early-run : IsRunSoFar early_so_far
early-run = run-by_parts (counted_row 1 ∷ []) early_half refl refl refl early_worked (refl, (rw none_yet refl, tt))

abbrev begin : Begin
begin = start_of 1 early_half

late_worked : OfEach (IsWorked tally_setup begin) (workers_in tallied) begin.states late_half.journals late_half.states
late_worked = (
  record { finished = finished-by_check _ _ refl; state_is = rw one_yet refl },
  (record { finished = finished-by_check _ _ refl; state_is = refl }, tt),
)

abbrev LateConserved : ℕ → Lane → Type 0
LateConserved n lane = option_map (shown tally_setup n) (slice_get late_half.journals lane.receiver) ≡ put_by begin two_named_rows late_half lane lane.sender

late_conserved : OfEachLane LateConserved 0 (lanes tallied)
late_conserved = (refl, (rw one_yet refl, tt))

late_run : IsRunFrom begin two_named_rows late_half
late_run = record {
  feed = refl;
  one_start_each = refl;
  one_journal_each = refl;
  one_state_each = refl;
  worked = of_each-gets (IsWorked tally_setup begin) (workers_in tallied) begin.states late_half.journals late_half.states late_worked;
  conserved = λ n lane journal at there. sym (of_each_lane-gets LateConserved (lanes tallied) late_conserved n lane at) ∙ ap (option_map (shown tally_setup n)) there;
}

two_numbered : AreRows two_named_rows
two_numbered zero row g = let e : counted_row 1 ≡ row = cc in subst (IsRow 1) e (record { numbered = refl; unborn = refl; unissued = refl; unmoved = refl })
two_numbered (suc zero) row g = let e : counted_row 2 ≡ row = cc in subst (IsRow 2) e (record { numbered = refl; unborn = refl; unissued = refl; unmoved = refl })
two_numbered (suc (suc i)) row g = absurd (cc)

pub late-next : (setup : Setup) → setup_view setup ≡ tally_setup → IsNextPart early_so_far (late_part setup)
late-next setup same = record {
  numbered = two_numbered;
  rows_begin = refl;
  requests_begin = ap (λ (s : SetupView). first_of s 0) same;
  due = All-from_recursion (λ after. min after 2 ≤ 1) [] tt;
  wait = subst (λ (s : SetupView). All (λ after. 1 ≤ after) (afters s.requests)) (sym same) (All-from_recursion (λ after. 1 ≤ after) (1 ∷ []) (lit≤ tt, tt));
  goes_on = subst (λ (s : SetupView). IsRunSince begin s two_named_rows late_half) (sym same) (record { setup_is = refl; run = late_run });
}

pub late-joined : joined tally_setup early_half late_half ≡ whole
late-joined = refl

pub unlifted-no_part : (setup : Setup) → setup_view setup ≡ unlifted → IsNextPart early_so_far (late_part setup) → ⊥
unlifted-no_part setup same next =
    let waits : All (λ after. 1 ≤ after) (0 ∷ []) = subst (λ (s : SetupView). All (λ after. 1 ≤ after) (afters s.requests)) same next.wait in
    let wrong : 1 ≤ 0 = (recursion_from_All (λ after. 1 ≤ after) (0 ∷ []) waits).0 in
    absurd (omega (arith, wrong))
