-- The laws of runs, over rows that no code holds, and of parts in a row.
use Rattle.std.proofs.Common.{◌≡◌, ℕ, List, [], ◌∷◌, refl, sym, subst}
use Rattle.std.specs.Prelude.{IsTrue}
use Rattle.jobs.specs.Nodes.{AreFromSources}
use Rattle.tuple_trace.specs.Rows.{AreRows}
use Rattle.tuple_trace.specs.declared.row.Row.{Row}
use Rattle.flow_model.specs.OneTable.{HasNoCounts}
use Rattle.flow_model.specs.Run.{IsRun, Ran}
use Rattle.flow_model.specs.Serial.{IsSerial, SeesPrefix, serial}
use Rattle.flow_model.specs.Setup.{setup_view}
use Rattle.flow_model.specs.SetupView.{SetupView}
use Rattle.flow_model.specs.declared.setup.Setup.{Setup}
use Rattle.flow_model.proofs.SerialLemmas.{is_serial, sees_prefix}
use Rattle.flow_model.proofs.SetupLemmas.{running}
use Rattle.savepoint.proofs.ConsistentLemmas.{run_consistent}
use Rattle.stream_law.specs.Stream.{AreNextParts, IsConsistentSoFar, IsRunSoFar, IsSerialSoFar, RunPart, SoFar, with_part, with_parts}
use Rattle.stream_law.proofs.NextLemmas.{all_run}

pub run_prefix : (setup : Setup) (rows : List Row) (ran : Ran) → AreRows rows → IsTrue (setup_view setup).ordered → IsRun (setup_view setup) rows ran
    → (row : ℕ) → SeesPrefix ran row (serial ran row)
run_prefix setup rows ran are ordered is row =
    sees_prefix rows ran (running setup rows ran are is) (subst (λ (s : SetupView). IsTrue s.ordered) (sym is.setup_is) ordered) row

pub run_serial : (setup : Setup) (rows : List Row) (ran : Ran) → AreRows rows → IsTrue (setup_view setup).ordered → HasNoCounts (setup_view setup).job
    → AreFromSources (setup_view setup).job rows → IsRun (setup_view setup) rows ran → IsSerial rows ran
run_serial setup rows ran are ordered none sources is =
    is_serial rows ran (running setup rows ran are is) (subst (λ (s : SetupView). IsTrue s.ordered) (sym is.setup_is) ordered)
    (subst (λ (s : SetupView). HasNoCounts s.job) (sym is.setup_is) none) (subst (λ (s : SetupView). AreFromSources s.job rows) (sym is.setup_is) sources)

-- there is a setup of which this is the view, and the rows are numbered
record HasSetup (so_far : SoFar) : Type 0 where
  setup : Setup
  setup_is : setup_view setup ≡ so_far.setup
  numbered : AreRows so_far.rows

-- after a part, its setup is that of all so far
part_setup : (so_far : SoFar) (part : RunPart) (later : List RunPart) → AreNextParts so_far (part ∷ later) → HasSetup (with_parts so_far (part ∷ later))
part_setup so_far part [] next = record { setup = part.setup; setup_is = refl; numbered = next.0.numbered }
part_setup so_far part (more ∷ later) next = part_setup (with_part so_far part) more later next.1

consistent_by : (so_far : SoFar) → HasSetup so_far → IsRunSoFar so_far → IsConsistentSoFar so_far
consistent_by so_far has is sources =
    run_consistent has.setup so_far.rows so_far.ran has.numbered
    (subst (λ (s : SetupView). AreFromSources s.job so_far.rows) (sym has.setup_is) sources)
    (subst (λ (s : SetupView). IsRun s so_far.rows so_far.ran) (sym has.setup_is) is)

serial_by : (so_far : SoFar) → HasSetup so_far → IsRunSoFar so_far → IsTrue so_far.setup.ordered → IsSerialSoFar so_far
serial_by so_far has is ordered =
    let here : IsRun (setup_view has.setup) so_far.rows so_far.ran = subst (λ (s : SetupView). IsRun s so_far.rows so_far.ran) (sym has.setup_is) is in
    let is_ordered : IsTrue (setup_view has.setup).ordered = subst (λ (s : SetupView). IsTrue s.ordered) (sym has.setup_is) ordered in
    record {
      prefix = λ row. run_prefix has.setup so_far.rows so_far.ran has.numbered is_ordered here row;
      alone = λ none sources. run_serial has.setup so_far.rows so_far.ran has.numbered is_ordered
          (subst (λ (s : SetupView). HasNoCounts s.job) (sym has.setup_is) none)
          (subst (λ (s : SetupView). AreFromSources s.job so_far.rows) (sym has.setup_is) sources) here;
    }

pub parts_consistent : (so_far : SoFar) (part : RunPart) (later : List RunPart) → IsRunSoFar so_far → AreNextParts so_far (part ∷ later)
    → IsConsistentSoFar (with_parts so_far (part ∷ later))
parts_consistent so_far part later is next =
    consistent_by (with_parts so_far (part ∷ later)) (part_setup so_far part later next) (all_run so_far (part ∷ later) is next)

pub parts_serial : (so_far : SoFar) (part : RunPart) (later : List RunPart) → IsRunSoFar so_far → AreNextParts so_far (part ∷ later)
    → IsTrue (with_parts so_far (part ∷ later)).setup.ordered → IsSerialSoFar (with_parts so_far (part ∷ later))
parts_serial so_far part later is next ordered =
    serial_by (with_parts so_far (part ∷ later)) (part_setup so_far part later next) (all_run so_far (part ∷ later) is next) ordered
