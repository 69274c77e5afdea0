-- Why a file of a stream wasn't written.
use Rattle.std.specs.Prelude.{◌≡◌, ◌⊎◌, ℕ, List, Some}
use Rattle.payments.specs.Causes.{Faults, WriteFailed}
use Rattle.payments.specs.declared.shelf.ShelfFault.{ShelfFault}
use Rattle.payments.specs.declared.shelf.ShelfFault.TheVariants as shelf
use Rattle.fries_lines.specs.declared.fault.Fault.{Fault}
use Rattle.fries_lines.specs.declared.fault.Fault.TheVariants as fault
use Rattle.fries_lines.specs.declared.fault.FileIs.{FileIs}
use Rattle.fries_lines.specs.declared.fault.FileIs.TheVariants as file
use Rattle.stream_run.specs.Growing.{Names}

-- the fault of a file that a shelf didn't write
abbrev pub write_fault : FileIs → ShelfFault → Fault
write_fault is shelf.Failed = fault.Write is
write_fault is shelf.Long = fault.NoMemory
write_fault is shelf.NoMemory = fault.NoMemory

-- the fault is of this file, and a write to it failed
abbrev pub IsOfFile : FileIs → List ℕ → Faults → Faults → Fault → Type 0
IsOfFile is name old new why = (why ≡ fault.Write is) × WriteFailed (Some name) old new

-- The fault is of one of the files that a stream writes, and a write to it failed; or memory ran
-- out.
abbrev pub IsUnwritten : Names → Faults → Faults → Fault → Type 0
IsUnwritten names old new why =
    IsOfFile file.Alerts names.alerts old new why
    ⊎ (IsOfFile file.Audit names.audit old new why
    ⊎ (IsOfFile file.Save names.save old new why
    ⊎ (why ≡ fault.NoMemory) × (new ≡ old)))
