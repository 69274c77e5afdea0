-- What an input of single bytes tells, and what it answers.
use Rattle.std.specs.Prelude.{◌≡◌, ℕ, List, [], ◌∷◌, Option, None, Some, Result, Ok, Err, drop}
use Rattle.std.specs.Io.KnownBytes.{Consumes, IsAtEnd, Keeps}
use Rattle.tuple_trace.specs.Counts.{Rose}
use Rattle.payments.specs.Memory.{Plan, unless_due}
use Rattle.live_control.specs.declared.asks.Failed.{Failed}
use Rattle.live_control.specs.declared.host.StdIn.{StdIn}
use Rattle.live_control.specs.declared.memory.MemoryAsks.{MemoryAsks}

-- the bytes that are left, if they are told, and how many calls have failed
pub record AsksIs : Type 0 where
  pub left : Option (List ℕ)
  pub faults : ℕ

-- If the bytes are told, a call takes the first byte alone, and `None` comes at the end.
abbrev pub IsFirstByteTaken : Option ℕ → AsksIs → AsksIs → Type 0
IsFirstByteTaken (Some byte) old new = Consumes old.left new.left (byte ∷ [])
IsFirstByteTaken None old new = Keeps old.left new.left × IsAtEnd new.left

-- What a call for the next byte returns and leaves. A failure takes nothing, and is counted.
abbrev pub IsNext : Result (Option ℕ) Failed → AsksIs → AsksIs → Type 0
IsNext (Ok byte) old new = IsFirstByteTaken byte old new × (new.faults ≡ old.faults)
IsNext (Err fault) old new = Keeps old.left new.left × Rose old.faults new.faults

-- the first byte, if there is one
abbrev pub byte_taken : List ℕ → Option ℕ
byte_taken [] = None
byte_taken (byte ∷ more) = Some byte

-- an input in memory: its bytes that are left, and which of its calls are to fail
abbrev pub asking_left : MemoryAsks → List ℕ
asking_left asks = drop asks.taken asks.bytes

abbrev pub asking_plan : MemoryAsks → Plan
asking_plan asks = record { failing = asks.failing; calls = asks.calls }

abbrev pub asking_faults : MemoryAsks → ℕ
asking_faults asks = asks.faults

-- what an input in memory answers
abbrev pub outcome_view : MemoryAsks → Result (Option ℕ) Failed
outcome_view asks = unless_due (asking_plan asks) (record {}) (Ok (byte_taken (asking_left asks)))

-- an input in memory tells its bytes
abbrev pub asking_state : MemoryAsks → AsksIs
asking_state asks = record { left = Some (asking_left asks); faults = asks.faults }

-- the standard input tells what its reader tells
abbrev pub in_faults_of : {I : Type 0} → StdIn I → ℕ
in_faults_of input = input.faults

abbrev pub in_state_of : {I : Type 0} → (I → Option (List ℕ)) → StdIn I → AsksIs
in_state_of remaining input = record { left = remaining input.input; faults = input.faults }
