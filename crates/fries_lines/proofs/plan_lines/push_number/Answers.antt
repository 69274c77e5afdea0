use Rattle.fries_lines.proofs.plan_lines.push_number.Goals as goal

pub returns : goal.returns
returns c = rw (c.as_bytes.ensures.value, c.in_ok-format.ensures.ok) at c.push.ensures
