-- What a call on the outside leaves of the counts of faults.
use Rattle.std.specs.Prelude.{◌≡◌, ◌<◌, ◌++◌, length, option_map, ℕ, List, Option, Some, Result, Ok}
use Rattle.std.specs.Prelude.{Err}
use Rattle.tuple_trace.specs.Counts.{Rose}
use Rattle.payments.specs.declared.shelf.ShelfFault.{ShelfFault}
use Rattle.payments.specs.declared.shelf.ShelfFault.TheVariants as shelf
use Rattle.payments.specs.declared.shelf.SinkFault.{SinkFault}
use Rattle.payments.specs.declared.shelf.SinkFault.TheVariants as sink

-- how many reads and writes have failed, and the file of the latest failure
pub record Faults : Type 0 where
  pub reads : ℕ
  pub writes : ℕ
  pub failed : Option (List ℕ)

-- a read of the file failed
pub record ReadFailed (name : List ℕ) (before now : Faults) : Type 0 where
  pub rose : Rose before.reads now.reads
  pub writes : now.writes ≡ before.writes
  pub failed : now.failed ≡ Some name

-- a write to the file failed
pub record WriteFailed (name : Option (List ℕ)) (before now : Faults) : Type 0 where
  pub rose : Rose before.writes now.writes
  pub reads : now.reads ≡ before.reads
  pub failed : now.failed ≡ name

-- what a read of the file leaves of the faults
abbrev pub ReadCause : {T : Type 0} → Result T ShelfFault → List ℕ → Faults → Faults → Type 0
ReadCause (Ok value) name before now = now ≡ before
ReadCause (Err shelf.Failed) name before now = ReadFailed name before now
ReadCause (Err shelf.Long) name before now = now ≡ before
ReadCause (Err shelf.NoMemory) name before now = now ≡ before

-- what a write to the file leaves of the faults; `Long` isn't its answer
abbrev pub WriteCause : {T : Type 0} → Result T ShelfFault → Option (List ℕ) → Faults → Faults
    → Type 0
WriteCause (Ok value) name before now = now ≡ before
WriteCause (Err shelf.Failed) name before now = WriteFailed name before now
WriteCause (Err shelf.Long) name before now = ⊥
WriteCause (Err shelf.NoMemory) name before now = now ≡ before

-- what a write to a stream leaves of its count
abbrev pub SinkCause : {T : Type 0} → Result T SinkFault → ℕ → ℕ → Type 0
SinkCause (Ok value) before now = now ≡ before
SinkCause (Err sink.Failed) before now = Rose before now
SinkCause (Err sink.NoMemory) before now = now ≡ before

-- a stream has the first bytes of a text at its end
pub record GainsPrefix (old new : Option (List ℕ)) (text : List ℕ) : Type 0 where
  pub done : List ℕ
  pub left : List ℕ
  pub text_is : text ≡ done ++ left
  pub holds : new ≡ option_map (λ w. w ++ done) old

-- a stream has the first bytes of a text at its end, but not all of them
pub record GainsProperPrefix (old new : Option (List ℕ)) (text : List ℕ) : Type 0 where
  pub done : List ℕ
  pub left : List ℕ
  pub text_is : text ≡ done ++ left
  pub some : 0 < length left
  pub holds : new ≡ option_map (λ w. w ++ done) old
