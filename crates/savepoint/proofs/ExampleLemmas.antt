-- The two halves, worker by worker and lane by lane.
use Rattle.std.proofs.Common.{◌≡◌, ℕ, List, [], ◌∷◌, Option, Some, None, refl, ap, sym, ◌∙◌, arith, lit≤, slice_get, take}
use Rattle.std.specs.Prelude.{option_map, pos}
use Rattle.std.specs.Prelude.{ℤ, codes, unsigned_abs}
use Rattle.std.specs.Cmp.Lexicographic.{slice_cmp}
use Rattle.std.specs.FinMap.{empty, get, get-empty, get-insert}
use Rattle.std.specs.Ordering.{nat_cmp}
use Rattle.std.proofs.lemmas.Cmp.{nat_list_cmp_total}
use Rattle.sink_journal.specs.declared.journal.Entry.TheVariants as entry
use Rattle.tuple_trace.specs.declared.tuple.Item.{Item}
use Rattle.tuple_trace.specs.declared.tuple.Item.TheVariants as item
use Rattle.tuple_trace.specs.declared.value.Value.{Value}
use Rattle.tuple_trace.specs.declared.value.Value.TheVariants as value
use Rattle.flow_model.specs.Begin.{Begin, at_first}
use Rattle.flow_model.specs.Lanes.{lanes}
use Rattle.flow_model.specs.declared.topology.Lane.{Lane}
use Rattle.flow_model.specs.Replay.{shown}
use Rattle.flow_model.specs.Run.{IsRun, IsRunFrom, IsWorked, put_by}
use Rattle.flow_model.specs.Workers.{workers_in}
use Rattle.flow_model.proofs.EachLemmas.{OfEach, OfEachLane, Worked, of_each-gets, of_each_lane-gets, run-by_parts}
use Rattle.flow_model.proofs.LawChecks.{finished-by_check}
use Rattle.savepoint.specs.Parts.{AreParts, first_of, joined, start_of}
use Rattle.savepoint.specs.TwoHalves.{first_half, second_half, second_to, has_count, tallied_row, tallied, tally_setup, two_named_rows, whole}

pub none_yet : get {R = slice_cmp nat_cmp} (empty {X = ℤ}) (codes "ann") ≡ None
none_yet = get-empty (slice_cmp nat_cmp) (codes "ann")

pub one_yet : get (has_count (pos 1)) (codes "ann") ≡ Some (pos 1)
one_yet = get-insert nat_list_cmp_total empty (codes "ann") (pos 1) (codes "ann")

first_worked : OfEach (Worked (first_of tally_setup 1)) (workers_in tallied) (at_first tally_setup).states first_half.journals first_half.states
first_worked = (
  record { finished = finished-by_check _ _ refl; state_is = rw none_yet refl },
  (record { finished = finished-by_check _ _ refl; state_is = refl }, tt),
)

first_run : IsRun (first_of tally_setup 1) (take 1 two_named_rows) first_half
first_run = run-by_parts (take 1 two_named_rows) first_half refl refl refl first_worked (refl, (rw none_yet refl, tt))

abbrev begin : Begin
begin = start_of 1 first_half

second_worked : OfEach (IsWorked tally_setup begin) (workers_in tallied) begin.states second_half.journals second_half.states
second_worked = (
  record { finished = finished-by_check _ _ refl; state_is = rw one_yet refl },
  (record { finished = finished-by_check _ _ refl; state_is = refl }, tt),
)

abbrev SecondConserved : ℕ → Lane → Type 0
SecondConserved n lane = option_map (shown tally_setup n) (slice_get second_half.journals lane.receiver) ≡ put_by begin two_named_rows second_half lane lane.sender

second_conserved : OfEachLane SecondConserved 0 (lanes tallied)
second_conserved = (refl, (rw one_yet refl, tt))

second_run : IsRunFrom begin two_named_rows second_half
second_run = record {
  feed = refl;
  one_start_each = refl;
  one_journal_each = refl;
  one_state_each = refl;
  worked = of_each-gets (IsWorked tally_setup begin) (workers_in tallied) begin.states second_half.journals second_half.states second_worked;
  conserved = λ n lane journal at there. sym (of_each_lane-gets SecondConserved (lanes tallied) second_conserved n lane at) ∙ ap (option_map (shown tally_setup n)) there;
}

pub halves-parts : AreParts tally_setup two_named_rows 1 first_half second_half
halves-parts = record { within = lit≤ tt; begins = first_run; goes_on = record { setup_is = refl; run = second_run } }

pub halves-whole : joined tally_setup first_half second_half ≡ whole
halves-whole = refl

abbrev seen_of : List Value → ℕ
seen_of (name ∷ value.Num count ∷ more) = unsigned_abs count
seen_of _ = 0

abbrev first_seen : Option (List Item) → ℕ
first_seen (Some (item.Carry tuple ∷ more)) = seen_of tuple.fields
first_seen _ = 0

pub forgotten-no_part : AreParts tally_setup two_named_rows 1 first_half (second_to (pos 10)) → ⊥
forgotten-no_part h =
    let lane : Lane = record { edge = 1; sender = Some 0; receiver = 1 } in
    let conserved = h.goes_on.run.conserved 1 lane (entry.Met 1 (tallied_row 2 (pos 10) 1) ∷ entry.Ended 1 ∷ []) refl refl in
    let counts : first_seen (put_by begin two_named_rows (second_to (pos 10)) lane (Some 0)) ≡ 10 = ap first_seen conserved in
    let wrong : ◌≡◌ {A = ℕ} 11 10 = rw one_yet at counts in
    absurd (omega (arith, wrong))
