-- The worked run of the four payments, worker by worker and lane by lane.
use Rattle.std.proofs.Common.{◌≡◌, ℕ, List, [], ◌∷◌, length, Option, Some, None, refl, ap, arith}
use Rattle.std.specs.Prelude.{pos}
use Rattle.sink_journal.specs.declared.journal.Entry.{Entry}
use Rattle.sink_journal.specs.declared.journal.Entry.TheVariants as entry
use Rattle.tuple_trace.specs.declared.tuple.Item.{Item}
use Rattle.flow_model.specs.declared.topology.Lane.{Lane}
use Rattle.flow_model.specs.Begin.{at_first}
use Rattle.flow_model.specs.FourPayments.{alerts, alerts_meets, big, chain, four_payments, four_ran, four_setup, short_ran}
use Rattle.flow_model.specs.Lanes.{lanes}
use Rattle.flow_model.specs.Law.{IsFinished}
use Rattle.flow_model.specs.Run.{IsRun}
use Rattle.flow_model.specs.TwoLanes.{joined, joining}
use Rattle.flow_model.specs.Workers.{workers_in}
use Rattle.flow_model.proofs.EachLemmas.{OfEach, OfEachLane, Conserved, Worked, run-by_parts}
use Rattle.flow_model.proofs.LawChecks.{finished-by_check}

all_worked : OfEach (Worked four_setup) (workers_in chain) (at_first four_setup).states four_ran.journals four_ran.states
all_worked = (
  record { finished = finished-by_check _ big refl; state_is = refl },
  (record { finished = finished-by_check _ alerts refl; state_is = refl }, tt),
)

all_conserved : OfEachLane (Conserved four_payments four_ran) 0 (lanes chain)
all_conserved = (refl, (refl, tt))

pub four-run : IsRun four_setup four_payments four_ran
four-run = run-by_parts four_payments four_ran refl refl refl all_worked all_conserved

abbrev into_alerts : Lane
into_alerts = record { edge = 1; sender = Some 0; receiver = 1 }

abbrev item_count : Option (List Item) → ℕ
item_count None = 0
item_count (Some items) = length items

pub missed-no_run : IsRun four_setup four_payments short_ran → ⊥
missed-no_run h =
    let short : List Entry = alerts_meets 2 (pos 10000) 0 ∷ alerts_meets 4 (pos 12000) 1 ∷ entry.Ended 1 ∷ [] in
    let e = h.run.conserved 1 into_alerts short refl refl in
    let f : ◌≡◌ {A = ℕ} 4 3 = ap item_count e in
    absurd (omega (arith, f))

pub joined-finished : IsFinished joining joined
joined-finished = finished-by_check joining joined refl
