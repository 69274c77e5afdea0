-- The status of a fault of a stream, and of a stream that ended.
use Rattle.std.specs.Prelude.{ℕ, List, [], ◌∷◌, Option, None, Some}
use Rattle.fries_lines.specs.Faults.{status_of as status_of_fault}
use Rattle.fries_lines.specs.declared.fault.Fault.TheVariants as fault
use Rattle.versions.specs.declared.in_order.Refused.{Refused}
use Rattle.stream_save.specs.declared.fault.StreamSaveFault.{StreamSaveFault}
use Rattle.stream_save.specs.declared.fault.StreamSaveFault.TheVariants as save
use Rattle.stream_call.specs.declared.fault.StreamFault.{StreamFault}
use Rattle.stream_call.specs.declared.fault.StreamFault.TheVariants as stream

-- the status of a fault: 10 if the savepoint is refused, or the input doesn't fit it
abbrev pub stream_status_of : StreamFault → ℕ
stream_status_of (stream.Call why) = status_of_fault why
stream_status_of (stream.Save why) = 10
stream_status_of (stream.Ahead row) = 10

-- the fault of a stream whose savepoint has this one
abbrev pub save_fault_of : StreamSaveFault → StreamFault
save_fault_of save.NoMemory = stream.Call fault.NoMemory
save_fault_of (save.Shape number) = stream.Save (save.Shape number)
save_fault_of (save.Past row) = stream.Save (save.Past row)
save_fault_of (save.Count number) = stream.Save (save.Count number)
save_fault_of (save.State number) = stream.Save (save.State number)
save_fault_of (save.Alerts length) = stream.Save (save.Alerts length)
save_fault_of (save.Audit length) = stream.Save (save.Audit length)

-- the status of a stream: that of its fault; without one 0, and 8 where requests were refused
abbrev pub stream_status_for : Option StreamFault → List Refused → ℕ
stream_status_for (Some why) refused = stream_status_of why
stream_status_for None [] = 0
stream_status_for None (first ∷ later) = 8
