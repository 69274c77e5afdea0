use Rattle.fries_lines.proofs.plan_lines.push_nodes.Goals as goal

pub returns : goal.returns
returns c = rw (c.as_slice.ensures, c.in_ok-list.ensures) at c.push.ensures
