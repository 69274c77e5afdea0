-- What a tap tells, and what a read of it gives.
use Rattle.std.specs.Prelude.{◌≡◌, ◌+◌, nat_lt, min, max, if◌then◌else◌, ℕ, List, Option, None, Some, Result, Ok, Err, drop, length, slice_get}
use Rattle.tuple_trace.specs.Counts.{Rose}
use Rattle.input_pieces.specs.declared.tap.TapFailed.{TapFailed}
use Rattle.input_pieces.specs.declared.tank.Tank.{Tank}
use Rattle.input_pieces.specs.declared.host.HostTap.{HostTap}
use Rattle.input_pieces.specs.declared.memory.MemoryTap.{MemoryTap}
use Rattle.input_pieces.specs.declared.memory.TapStep.{TapStep}
use Rattle.input_pieces.specs.declared.memory.TapStep.TheVariants as step
use Rattle.input_pieces.specs.declared.sure.SureTap.{SureTap}

-- the bytes that are left, if they are told, and how many reads have failed
pub record TapState : Type 0 where
  pub left : Option (List ℕ)
  pub faults : ℕ

-- what a read leaves of the count of failures
abbrev pub TapCause : {T : Type 0} → Result T TapFailed → ℕ → ℕ → Type 0
TapCause (Ok value) before now = now ≡ before
TapCause (Err fault) before now = Rose before now

-- the bytes that are left in memory
abbrev pub left_in : Tank → List ℕ
left_in tank = drop tank.taken tank.bytes

-- how many bytes a read gives: as many as there is room for, but at most so many, and at least one
-- if there is one
abbrev pub count_given : ℕ → ℕ → List ℕ → ℕ
count_given most room left = min (max most 1) (min room (length left))

-- a tap in memory: its bytes that are left, and how many reads have failed
abbrev pub left_of : MemoryTap → List ℕ
left_of tap = left_in tap.tank

abbrev pub faults_of : MemoryTap → ℕ
faults_of tap = tap.faults

-- the steps of a tap in memory, and how many of them are done
pub record Script : Type 0 where
  pub steps : List TapStep
  pub done : ℕ

abbrev pub script_of : MemoryTap → Script
script_of tap = record { steps = tap.steps; done = tap.done }

-- the next step, if there is one
abbrev pub next_step : Script → Option TapStep
next_step script = slice_get script.steps script.done

-- a script after one read more
abbrev pub after_step : Script → Script
after_step script =
    record script {
      done = if nat_lt script.done (length script.steps) then script.done + 1 else script.done;
    }

-- what a read answers that has this much room, by the next step and the bytes that are left
abbrev pub answer_of : Option TapStep → ℕ → List ℕ → Result ℕ TapFailed
answer_of None room left = Ok (count_given room room left)
answer_of (Some (step.Gives most)) room left = Ok (count_given most room left)
answer_of (Some step.Fails) room left = Err (record {})

-- a tap in memory tells its bytes
abbrev pub memory_state_of : MemoryTap → TapState
memory_state_of tap = record { left = Some (left_of tap); faults = faults_of tap }

-- a tap that never fails tells its bytes, and counts no failure
abbrev pub sure_left : SureTap → List ℕ
sure_left tap = left_in tap.tank

abbrev pub sure_state_of : SureTap → TapState
sure_state_of tap = record { left = Some (sure_left tap); faults = 0 }

-- a tap over a reader tells what its reader tells
abbrev pub host_faults_of : {I : Type 0} → HostTap I → ℕ
host_faults_of tap = tap.faults

abbrev pub host_state_of : {I : Type 0} → (I → Option (List ℕ)) → HostTap I → TapState
host_state_of remaining tap = record { left = remaining tap.input; faults = tap.faults }
