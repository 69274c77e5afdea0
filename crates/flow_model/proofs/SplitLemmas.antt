-- The worked run over two ways, worker by worker and lane by lane.
use Rattle.std.proofs.Common.{◌≡◌, ℕ, List, ◌∷◌, get_or, Option, Some, refl, ap, arith}
use Rattle.tuple_trace.specs.declared.tuple.Item.{Item}
use Rattle.tuple_trace.specs.declared.tuple.Item.TheVariants as item
use Rattle.flow_model.specs.Begin.{at_first}
use Rattle.flow_model.specs.Lanes.{lanes}
use Rattle.flow_model.specs.Run.{IsRun}
use Rattle.flow_model.specs.SplitAbove.{by_g, by_m, by_out, by_s, by_x, by_y, exchanged_ran, split_ran, split_setup, two_rows, two_ways}
use Rattle.flow_model.specs.Workers.{workers_in}
use Rattle.flow_model.proofs.EachLemmas.{OfEach, OfEachLane, Conserved, Worked, run-by_parts}
use Rattle.flow_model.proofs.LawChecks.{finished-by_check}

all_worked : OfEach (Worked split_setup) (workers_in two_ways) (at_first split_setup).states split_ran.journals split_ran.states
all_worked = (
  record { finished = finished-by_check _ by_s refl; state_is = refl },
  (
    record { finished = finished-by_check _ by_g refl; state_is = refl },
    (
      record { finished = finished-by_check _ by_x refl; state_is = refl },
      (
        record { finished = finished-by_check _ by_y refl; state_is = refl },
        (
          record { finished = finished-by_check _ by_m refl; state_is = refl },
          (record { finished = finished-by_check _ by_out refl; state_is = refl }, tt),
        ),
      ),
    ),
  ),
)

all_conserved : OfEachLane (Conserved two_rows split_ran) 0 (lanes two_ways)
all_conserved = (refl, (refl, (refl, (refl, (refl, (refl, (refl, tt)))))))

pub split-run : IsRun split_setup two_rows split_ran
split-run = run-by_parts two_rows split_ran refl refl refl all_worked all_conserved

-- the last birth of the third item, of a list that has it
abbrev third_birth : Option (List Item) → ℕ
third_birth (Some (first ∷ second ∷ item.Carry tuple ∷ more)) = get_or tuple.birth 0 0
third_birth _ = 0

pub exchanged-no_run : IsRun split_setup two_rows exchanged_ran → ⊥
exchanged-no_run h =
    let e = h.run.conserved 6 (record { edge = 6; sender = Some 4; receiver = 5 }) _ refl refl in
    let f : ◌≡◌ {A = ℕ} 1 0 = ap third_birth e in
    absurd (omega (arith, f))
