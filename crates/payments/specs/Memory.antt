-- A shelf and a sink in memory: what they hold, and what they answer.
use Rattle.std.specs.Prelude.{◌+◌, ◌-◌, ◌^◌, min, max, nat_eq, nat_le, length, Result, Ok, Err}
use Rattle.std.specs.Prelude.{if◌then◌else◌, ℕ, Bool, List, Option, None, Some, option_map}
use Rattle.std.specs.Prelude.{map as map_list}
use Rattle.std.specs.List.{list_any}
use Rattle.std.specs.FinMap as map
use Rattle.payments.specs.Causes.{Faults}
use Rattle.payments.specs.Files.{Draft, Files, bytes_of, draft_with}
use Rattle.payments.specs.World.{ShelfState, SinkState}
use Rattle.payments.specs.declared.memory.File.{File}
use Rattle.payments.specs.declared.memory.MemoryShelf.{MemoryShelf}
use Rattle.payments.specs.declared.memory.MemorySink.{MemorySink}
use Rattle.payments.specs.declared.shelf.ShelfFault.{ShelfFault}
use Rattle.payments.specs.declared.shelf.ShelfFault.TheVariants as shelf_fault
use Rattle.payments.specs.declared.shelf.SinkFault.{SinkFault}
use Rattle.payments.specs.declared.shelf.SinkFault.TheVariants as sink_fault

-- a file as a name and its bytes
abbrev pub entry_of : File → List ℕ × List ℕ
entry_of file = (file.name, file.bytes)

-- the files of a list, the newest first
abbrev pub stored_files : List File → Files
stored_files stored = map.from_entries (map_list entry_of stored)

-- what a shelf in memory holds
abbrev pub files_of : MemoryShelf → Files
files_of shelf = stored_files shelf.stored.items

-- the draft of a shelf in memory, if there is one
abbrev pub draft_of : MemoryShelf → Option Draft
draft_of shelf = option_map (λ file. draft_with (Some (files_of shelf)) file.name file.bytes)
    shelf.draft

-- what a shelf in memory has counted
abbrev pub faults_of : MemoryShelf → Faults
faults_of shelf = record {
  reads = shelf.read_faults;
  writes = shelf.write_faults;
  failed = shelf.failed;
}

-- a shelf in memory as a shelf, which tells its files
abbrev pub shelf_state_of : MemoryShelf → ShelfState
shelf_state_of shelf = record {
  files = Some (files_of shelf);
  faults = faults_of shelf;
  draft = draft_of shelf;
}

-- which calls are to fail, and how many there were
pub record Plan : Type 0 where
  pub failing : List ℕ
  pub calls : ℕ

abbrev pub plan_of : MemoryShelf → Plan
plan_of shelf = record { failing = shelf.failing; calls = shelf.calls }

abbrev pub sink_plan_of : MemorySink → Plan
sink_plan_of sink = record { failing = sink.failing; calls = sink.calls }

-- a plan after one call more, up to the end of the count
abbrev pub after_call : Plan → Plan
after_call plan = record plan { calls = min (plan.calls + 1) (2 ^ 64 - 1) }

-- the next call is one of those that are to fail
abbrev pub is_due : Plan → Bool
is_due plan = list_any (λ call. nat_eq call plan.calls) plan.failing

-- an answer, unless the next call is to fail
abbrev pub unless_due : {T E : Type 0} → Plan → E → Result T E → Result T E
unless_due plan fault answer = if is_due plan then Err fault else answer

-- the greatest number of bytes that one append takes
abbrev pub step_of : MemoryShelf → ℕ
step_of shelf = shelf.step

-- what was written to a sink in memory, and how many writes of it have failed
abbrev pub written_of : MemorySink → List ℕ
written_of sink = sink.written

abbrev pub sink_faults_of : MemorySink → ℕ
sink_faults_of sink = sink.faults

-- a sink in memory as a stream, which tells what was written
abbrev pub sink_state_of : MemorySink → SinkState
sink_state_of sink = record { written = Some (written_of sink); faults = sink_faults_of sink }

-- the bytes of a file that is there, up to a limit
abbrev pub up_to : ℕ → Option (List ℕ) → Result (List ℕ) ShelfFault
up_to limit None = Err shelf_fault.Failed
up_to limit (Some bytes) = if nat_le (length bytes) limit then Ok bytes else Err shelf_fault.Long

-- what a shelf in memory answers to a read, where there is memory
abbrev pub read_of : MemoryShelf → List ℕ → ℕ → Result (List ℕ) ShelfFault
read_of shelf name limit =
    unless_due (plan_of shelf) shelf_fault.Failed (up_to limit (map.get (files_of shelf) name))

-- what it answers to a draft that is to be begun or kept
abbrev pub create_of : MemoryShelf → Result (Unit {0}) ShelfFault
create_of shelf = unless_due (plan_of shelf) shelf_fault.Failed (Ok tt)

-- what it answers to a piece of this length: the step, but at least one byte and at most the whole
-- piece
abbrev pub append_of : MemoryShelf → ℕ → Result ℕ ShelfFault
append_of shelf size =
    unless_due (plan_of shelf) shelf_fault.Failed (Ok (min (max (step_of shelf) 1) size))

-- what it returns for a cut of a file to this size, if there is memory
abbrev pub cut_of : MemoryShelf → List ℕ → ℕ → Result Bool ShelfFault
cut_of shelf name size = unless_due (plan_of shelf) shelf_fault.Failed
    (Ok (nat_le size (length (bytes_of (files_of shelf) name))))

-- what a sink in memory answers to a piece of this length, where there is memory
abbrev pub write_of : MemorySink → ℕ → Result ℕ SinkFault
write_of sink size = unless_due (sink_plan_of sink) sink_fault.Failed (Ok size)
