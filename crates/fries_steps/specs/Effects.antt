-- What a call leaves of the files and the output.
use Rattle.std.specs.Prelude.{◌≡◌, ◌⊎◌, ◌≤◌, ◌++◌, ℕ, List, Option, None, Some, option_map}
use Rattle.payments.specs.Causes.{Faults, GainsPrefix, GainsProperPrefix, WriteFailed}
use Rattle.payments.specs.Files.{with_bytes}
use Rattle.payments.specs.World.{SinkState, World}
use Rattle.tuple_trace.specs.Counts.{Rose}
use Rattle.fries_lines.specs.FaultWords.{fault_line}
use Rattle.fries_lines.specs.declared.fault.Fault.{Fault}
use Rattle.fries_lines.specs.declared.fault.Fault.TheVariants as fault
use Rattle.fries_lines.specs.declared.fault.FileIs.{FileIs}
use Rattle.fries_lines.specs.declared.fault.FileIs.TheVariants as file

-- a fault was counted
abbrev pub HasFailed : World → World → Type 0
HasFailed old new = Rose old.shelf.faults.reads new.shelf.faults.reads
    ⊎ (Rose old.shelf.faults.writes new.shelf.faults.writes ⊎ Rose old.out.faults new.out.faults)

-- nothing is promised of the answer: a fault was counted, or memory ran out
abbrev pub IsExcused : World → World → Option Fault → Type 0
IsExcused old new answer = HasFailed old new ⊎ (answer ≡ Some fault.NoMemory)

-- ---- files that are written

-- a text that is to stand in a file
pub record FileText : Type 0 where
  pub is : FileIs
  pub name : List ℕ
  pub text : List ℕ

-- the file holds this text; nothing else changes, and nothing is printed
pub record StoresWhole (text : FileText) (old new : World) : Type 0 where
  pub files : new.shelf.files ≡ with_bytes old.shelf.files text.name text.text
  pub faults : new.shelf.faults ≡ old.shelf.faults
  pub draft : new.shelf.draft ≡ None
  pub out : new.out ≡ old.out

-- why the file wasn't stored
abbrev pub StoresNot : FileIs → List ℕ → Faults → Faults → Fault → Type 0
StoresNot is name old new why = ((why ≡ fault.Write is) × WriteFailed (Some name) old new)
    ⊎ ((why ≡ fault.NoMemory) × (new ≡ old))

-- ---- what is printed

-- What printing a text comes to: it is written whole, or what stopped it left a prefix of it, and
-- not all of it. Memory may also run out before any of it is printed.
abbrev pub Prints : List ℕ → SinkState → SinkState → Option Fault → Type 0
Prints text old new None = (new.written ≡ option_map (λ written. written ++ text) old.written)
    × (new.faults ≡ old.faults)
Prints text old new (Some (fault.Write file.Out)) = GainsProperPrefix old.written new.written text
    × Rose old.faults new.faults
Prints text old new (Some fault.NoMemory) = (GainsProperPrefix old.written new.written text
    ⊎ (new.written ≡ old.written)) × (new.faults ≡ old.faults)
Prints text old new (Some _) = ⊥

-- what is printed of a fault, and what it counts: its line, whole or cut, but nothing once the
-- output has refused
abbrev pub PrintsReport : Option Fault → SinkState → SinkState → Type 0
PrintsReport None old new = new ≡ old
PrintsReport (Some (fault.Write file.Out)) old new = new ≡ old
PrintsReport (Some why) old new = GainsPrefix old.written new.written (fault_line why)
    × (old.faults ≤ new.faults)

-- the line of the fault is printed, and nothing else changes
pub record PrintsFault (answer : Option Fault) (old new : World) : Type 0 where
  pub shelf : new.shelf ≡ old.shelf
  pub line : PrintsReport answer old.out new.out
