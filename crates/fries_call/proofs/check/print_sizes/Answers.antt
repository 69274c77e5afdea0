use Rattle.fries_call.proofs.check.print_sizes.Goals as goal

pub returns : goal.returns
returns g c = c.print_made.ensures _ c.sizes_line.ensures
