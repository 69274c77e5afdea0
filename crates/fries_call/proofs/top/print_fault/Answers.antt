use Rattle.fries_call.proofs.top.print_fault.Goals as goal

pub returns : goal.returns
returns g c = c.print_made.ensures _ c.fault_line.ensures
