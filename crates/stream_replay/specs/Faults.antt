-- The fault of the program for one of the parts of a stream.
use Rattle.fries_lines.specs.declared.fault.Fault.{Fault}
use Rattle.fries_lines.specs.declared.fault.Fault.TheVariants as fault
use Rattle.stream_replay.specs.declared.fault.PartFault.{PartFault}
use Rattle.stream_replay.specs.declared.fault.PartFault.TheVariants as part

abbrev pub part_fault : PartFault → Fault
part_fault (part.Loose number) = fault.Part number
part_fault part.NoMemory = fault.NoMemory
