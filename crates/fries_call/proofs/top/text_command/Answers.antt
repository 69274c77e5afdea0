use Rattle.std.proofs.Common.{refl}
use Rattle.fries_call.proofs.top.text_command.Goals as goal

pub returns : goal.returns
returns g c = record {
  lines = record {
    shelf = refl;
    prints = rw c.err.ensures.value (rw c.as_bytes.ensures.value at c.print.ensures);
  };
  refused = c.new.ensures;
  ran = refl;
  start = refl;
}
