use Rattle.std.proofs.Common.{inr}
use Rattle.fries_steps.proofs.running.write_run.Goals as goal

pub returns : goal.returns
returns g c = inr (rw (c.in_ok-texts.ensures.files, c.in_ok-texts.ensures.lines) at c.write_texts.ensures)
